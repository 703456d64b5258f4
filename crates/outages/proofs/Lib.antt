-- Laws of an outage log.
pub mod Reading
pub mod Counting
pub mod Accepted
