-- What a listing or a screen asks of a book.
pub mod Questions
pub mod Values
