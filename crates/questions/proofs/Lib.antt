-- Laws of the questions.
pub mod Values
