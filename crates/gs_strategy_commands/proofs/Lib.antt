pub mod Spots
pub mod Told
pub mod Mixed
pub mod Moved
pub mod Lines
