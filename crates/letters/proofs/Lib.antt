-- Laws of the lines of each letter.
pub mod Owners
