-- The limits of the papers, the flags of a unit, and the numbered replies.
pub mod Limits
pub mod Flags
pub mod Refusals
