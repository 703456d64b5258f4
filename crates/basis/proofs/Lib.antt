-- Laws of the shared definitions, over the index, the width and the count.
pub mod Choice
pub mod Sums
pub mod Tables
pub mod Entries
pub mod Numbers
pub mod Made
