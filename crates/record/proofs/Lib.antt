-- Laws of reading and writing, and the theorems.
pub mod Reader
pub mod Shows
pub mod Writer
pub mod RoundTrip
pub mod Old
pub mod Examples
