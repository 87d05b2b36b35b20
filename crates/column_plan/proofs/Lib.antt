pub mod Held
pub mod Pieces
pub mod RowStarts
