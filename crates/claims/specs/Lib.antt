-- What is claimed of the book, and the figures of a history of accepted calls.
pub mod History
pub mod Figures
pub mod Demand
pub mod Refusals
pub mod Cases
pub mod Printed
pub mod Journals
pub mod Before
