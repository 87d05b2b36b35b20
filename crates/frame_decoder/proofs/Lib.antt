pub mod PlainBlocks
pub mod PlainTiles
pub mod PlainFrames
