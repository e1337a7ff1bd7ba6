pub mod Decks
pub mod Puts
pub mod Kuhn
pub mod Pivots
pub mod MadeGames
