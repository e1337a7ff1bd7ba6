pub mod TallyLaws
pub mod RowLaws
pub mod ClassLaws
pub mod Singles
pub mod ApartLaws
pub mod Kept
pub mod Linked
