-- Definitions of the lines of each letter.
pub mod Letters
