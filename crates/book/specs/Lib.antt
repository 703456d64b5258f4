-- The year, any call on a book, and lists of calls.
pub mod Year
pub mod Step
pub mod Lists
