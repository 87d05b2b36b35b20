pub mod Counted
pub mod LevelWays
pub mod PlaceWays
