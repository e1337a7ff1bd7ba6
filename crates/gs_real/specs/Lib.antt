pub mod Numbers
pub mod Plans
pub mod Behaviour
pub mod Laws
