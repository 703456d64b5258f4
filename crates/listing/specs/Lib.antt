-- Definitions of the listing, in the order of document 01.
pub mod Listing
