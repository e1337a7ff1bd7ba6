pub mod Judging
pub mod Commands
pub mod RawGames
pub mod Asks
