-- Laws of the printed close.
pub mod Lengths
pub mod Laying
pub mod Paging
pub mod Growing
pub mod Answers
pub mod Whole
