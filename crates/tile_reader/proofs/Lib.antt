mod Endings
mod SquareEnds
mod RowEnds
