-- Laws of the calls of a consumer and of a contract.
pub mod Rows
pub mod Settled
pub mod Acts
