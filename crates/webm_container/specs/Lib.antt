pub mod Ids
pub mod Elements
pub mod TrackEntries
pub mod ClusterBlocks
pub mod Walk
pub mod Webm
pub mod Code
pub mod Laws
