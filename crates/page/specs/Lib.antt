-- The printed close, as request A1 of document 02 defines it.
pub mod Page
pub mod Promises
