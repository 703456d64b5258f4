-- Laws of calls in words.
pub mod Readings
