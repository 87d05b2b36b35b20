pub mod Endings
pub mod SquareEnds
pub mod RowEnds
