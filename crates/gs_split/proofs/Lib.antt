pub mod Agreed
pub mod MemberNumbers
pub mod Turned
pub mod Splits
pub mod Known
pub mod Proposed
