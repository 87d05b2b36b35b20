pub mod Rows
pub mod Starts
pub mod Rasters
pub mod FewBlocks
