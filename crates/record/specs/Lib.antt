-- Reading and writing the journal's records, in the order of document 01.
pub mod Reading
pub mod Writing
pub mod RoundTrip
pub mod Old
