pub mod BlockTells
pub mod WrittenReads
pub mod TileWrites
pub mod SpansRead
pub mod TilesSoFar
pub mod FrameGiven
pub mod ColumnEnds
pub mod OneBytes
