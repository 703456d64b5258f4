-- Laws of the close.
pub mod Bounds
pub mod CloseLaws
