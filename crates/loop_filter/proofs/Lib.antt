pub mod Sides
pub mod Walks
pub mod CellRows
pub mod Within
pub mod Frames
pub mod PlannedEdges
pub mod FinalRows
pub mod Following
