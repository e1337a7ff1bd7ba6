pub mod Troubles
pub mod Queries
pub mod Commands
pub mod Held
pub mod Certificates
pub mod Verifying
pub mod Wanted
pub mod Asks
