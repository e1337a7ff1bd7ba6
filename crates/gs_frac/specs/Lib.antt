pub mod Gcd
pub mod Texts
pub mod Views
pub mod FaultText
