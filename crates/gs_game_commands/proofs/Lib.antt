pub mod Checked
pub mod Answering
pub mod NoGaps
pub mod Said
pub mod SolvedGaps
pub mod Told
pub mod TurnLines
pub mod Printed
