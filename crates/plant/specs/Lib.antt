-- Availability and offers, in the order of document 01, and what is promised of Level Plant.
pub mod Availability
pub mod Offer
pub mod Efficient
pub mod Promises
