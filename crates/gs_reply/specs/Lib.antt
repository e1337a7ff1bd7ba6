pub mod Refusals
pub mod Replies
pub mod StoreText
pub mod Troubles
pub mod VerdictText
