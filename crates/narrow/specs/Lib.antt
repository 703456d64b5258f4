-- Definitions of the converter.
pub mod Narrow
