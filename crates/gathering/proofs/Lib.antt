-- Laws of the calls of a unit.
pub mod Bars
pub mod Trials
pub mod Settled
