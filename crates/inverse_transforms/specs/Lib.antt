pub mod Angles
pub mod Ranges
pub mod Flow
pub mod Transforms
pub mod LaneColumns
pub mod Straight
