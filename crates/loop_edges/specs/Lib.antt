pub mod FilterLevels
pub mod Cells
pub mod FrameEdges
pub mod Code
