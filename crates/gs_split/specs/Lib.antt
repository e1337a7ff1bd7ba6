pub mod Proposal
pub mod Turns
