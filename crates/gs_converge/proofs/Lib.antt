pub mod Codes
pub mod Payoffs
pub mod Numbers
pub mod Pure
pub mod Gaps
pub mod Answered
pub mod Traced
pub mod Converged
