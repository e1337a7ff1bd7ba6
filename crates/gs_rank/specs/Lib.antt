pub mod Hands
pub mod ThreeCards
