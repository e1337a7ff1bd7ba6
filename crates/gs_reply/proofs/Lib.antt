pub mod Refused
pub mod Held
