-- Laws of Level Plant.
pub mod Coefficient
pub mod Results
pub mod Offers
pub mod Selection
