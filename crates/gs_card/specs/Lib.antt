pub mod DeckFaults
pub mod Decks
pub mod Groups
pub mod Kinds
pub mod Rankings
