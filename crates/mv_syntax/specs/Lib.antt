pub mod Components
pub mod Differences
