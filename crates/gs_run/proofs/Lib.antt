mod Ends
mod Answered
mod Meant
pub mod Concluded
mod Decided
mod Theorem
mod InMemory
pub mod Confirming
mod OneGame
mod OneStrategy
mod OneCertificate
mod OneSettled
mod OneProgram
mod OneSolve
mod OnePath
mod OneEach
mod OneDuel
pub mod Answering
