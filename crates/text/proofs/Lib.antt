-- Laws of text in fixed memory.
pub mod Digits
pub mod Alignment
pub mod Joining
