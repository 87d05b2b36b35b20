pub mod Orders
pub mod ScanLaws
pub mod Ranges
pub mod Candidates
pub mod Circle
pub mod Sizes
