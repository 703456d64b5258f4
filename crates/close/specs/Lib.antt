-- The close, as document 01 defines it.
pub mod Close
