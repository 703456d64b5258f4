-- The calls of a consumer and of a contract, in the order of document 01.
pub mod Consumers
pub mod ContractCalls
