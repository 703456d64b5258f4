-- Laws of the run over a journal.
pub mod Reading
pub mod Turns
pub mod Counts
pub mod Calls
pub mod Refusals
pub mod Earliest
pub mod Stops
pub mod Ready
pub mod Summed
pub mod Underway
