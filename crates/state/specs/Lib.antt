-- What the book keeps, in the order of document 01, and where a unit and a consumer stand in it.
pub mod State
pub mod Places
