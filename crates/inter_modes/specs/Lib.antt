pub mod BlockStarts
pub mod IntraBlocks
pub mod BlockVectors
pub mod ModeInfo
pub mod LeftSegments
pub mod Code
