pub mod Blocks
pub mod BlockMvs
pub mod InPlanes
pub mod Planned
pub mod Grid
pub mod SegmentMaps
pub mod Code
