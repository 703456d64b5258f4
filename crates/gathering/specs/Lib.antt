-- The calls of a unit, in the order of document 01.
pub mod Lending
pub mod Units
