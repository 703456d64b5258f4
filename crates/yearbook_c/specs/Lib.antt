-- Definitions of what C is answered.
pub mod Yearbook
