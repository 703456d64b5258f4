-- Definitions of text in a buffer.
pub mod Text
pub mod Columns
