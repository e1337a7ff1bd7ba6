pub mod KeyNumbers
pub mod Orders
pub mod Numbers
pub mod Pairings
