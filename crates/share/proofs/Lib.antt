-- Laws of the division. `Laws` is what other crates cite.
pub mod Largest
pub mod Quotients
pub mod Units
pub mod Laws
pub mod Accepted
pub mod Encoded
