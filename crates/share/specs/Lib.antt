-- Division by shares, as document 01 defines it.
pub mod Division
pub mod Buffers
pub mod Promises
