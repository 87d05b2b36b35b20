pub mod SquareBlocks
pub mod First
pub mod Fours
pub mod Residue
pub mod Code
