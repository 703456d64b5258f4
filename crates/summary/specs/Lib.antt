-- Definitions of a run in words.
pub mod Summary
