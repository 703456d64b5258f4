-- Definitions that every level shares. No paper is rendered here.
pub mod Choice
pub mod Sums
pub mod Tables
pub mod Numbers
