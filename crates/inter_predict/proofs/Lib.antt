pub mod Agree
pub mod Blocks
pub mod InPlane
pub mod Pieces
pub mod RowLemmas
pub mod Values
pub mod Whole
