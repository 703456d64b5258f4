-- Availability from an outage log (document 02, A5).
pub mod Log
pub mod Outages
pub mod Promises
