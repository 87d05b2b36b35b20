pub mod Least
pub mod Rows
pub mod InRange
pub mod SegmentMaps
pub mod Columns
pub mod QuartersBySize
