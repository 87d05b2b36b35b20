pub mod BlockSizes
pub mod SplitSquares
pub mod Parts
pub mod TransformBlocks
pub mod FrameShapes
pub mod Quarters
pub mod Code
