pub mod Adjacency
pub mod Search
pub mod Refusal
