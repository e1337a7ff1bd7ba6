pub mod Boards
pub mod Places
pub mod Runs
