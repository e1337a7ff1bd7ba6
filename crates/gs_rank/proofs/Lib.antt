pub mod Greatest
pub mod Kept
