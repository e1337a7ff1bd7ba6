pub mod BestTurns
pub mod Laws
