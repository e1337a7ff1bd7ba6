pub mod Queries
pub mod Mixtures
pub mod Letters
