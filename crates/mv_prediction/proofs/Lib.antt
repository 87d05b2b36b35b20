pub mod Founds
pub mod Small
pub mod Columns
