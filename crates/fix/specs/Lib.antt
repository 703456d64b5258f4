-- The fix, as document 01 defines it.
pub mod Fix
