-- Laws of replies, of places, and of the cells of balances.
pub mod Replies
pub mod Placed
pub mod Cells
