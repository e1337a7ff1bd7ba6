pub mod Integers
pub mod Exchange
pub mod Chosen
pub mod Dropped
pub mod Converged
pub mod Extended
pub mod Existing
