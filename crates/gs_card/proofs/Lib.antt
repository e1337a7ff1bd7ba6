pub mod DeckLaws
pub mod GroupLaws
pub mod GroupOrder
pub mod KindLaws
pub mod Letters
pub mod TakenCards
