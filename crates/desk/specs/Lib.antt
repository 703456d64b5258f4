-- Definitions of what the program says in words.
pub mod Replies
pub mod Findings
pub mod Printing
pub mod Summing
pub mod Narrowing
pub mod Promises
