pub mod Narrow
pub mod FarLines
pub mod LaneLemmas
pub mod SquareLemmas
pub mod LineBlocks
mod NearMasks
pub mod EdgeLines
pub mod SmallLines
pub mod KeptLines
