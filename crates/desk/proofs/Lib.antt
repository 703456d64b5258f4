-- What the checker checks of the program's words.
pub mod Lines
pub mod Telling
pub mod Silence
pub mod Printed
