-- Laws of the converter.
pub mod Turns
