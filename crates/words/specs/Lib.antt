-- Definitions of the words for numbers and calls.
pub mod Numbers
pub mod Conditions
pub mod Calls
