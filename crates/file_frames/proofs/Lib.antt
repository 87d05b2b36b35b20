pub mod Splits
pub mod Walks
pub mod Aheads
pub mod Containers
