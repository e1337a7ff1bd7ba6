pub mod Rounds
pub mod Lines
pub mod Judged
pub mod TooMany
pub mod RawGames
