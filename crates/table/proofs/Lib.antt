-- Laws of the table of records.
pub mod Codec
pub mod Laws
pub mod ConsumerFields
pub mod Table
pub mod UnitLaws
pub mod ConsumerLaws
pub mod ContractLaws
pub mod Old
pub mod Tested
