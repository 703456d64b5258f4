-- The table of the journal's records, in the order of document 01.
pub mod Records
pub mod Fields
pub mod Ranges
pub mod Old
