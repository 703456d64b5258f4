-- Quantities, ranges and maximum power, in the order of document 01, and the card of least counts.
pub mod Ranges
pub mod Quantity
pub mod Power
pub mod Card
