pub mod Held
pub mod Moves
pub mod Spots
pub mod Ratios
pub mod Mixed
