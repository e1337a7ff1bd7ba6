pub mod GcdLaws
pub mod Numerals
pub mod Made
pub mod TextLaws
pub mod Signs
pub mod OneForm
pub mod Fractions
