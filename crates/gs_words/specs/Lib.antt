pub mod Made
pub mod Values
pub mod Commands
pub mod Program
pub mod Tasks
pub mod Requests
pub mod Plain
