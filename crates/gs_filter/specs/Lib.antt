pub mod Filter
pub mod Tallies
pub mod Faults
pub mod FaultText
pub mod Laws
pub mod Members
