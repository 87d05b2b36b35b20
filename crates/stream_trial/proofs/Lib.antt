pub mod Shows
pub mod Counts
pub mod Sums
