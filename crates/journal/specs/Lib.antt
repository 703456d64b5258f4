-- Definitions of the run over a journal, in the order of document 01.
pub mod Run
pub mod Calls
pub mod Tally
pub mod Ledger
pub mod Promises
