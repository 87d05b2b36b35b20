pub mod Steps
pub mod Splits
