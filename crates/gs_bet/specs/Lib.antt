pub mod MoveLists
pub mod TreeView
pub mod Grammar
pub mod Cuts
pub mod Reading
pub mod Faults
pub mod Limit
