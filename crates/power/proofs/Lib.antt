-- Laws of tests and maximum power.
pub mod Readings
pub mod Quotients
pub mod Accepted
pub mod LeastCounts
