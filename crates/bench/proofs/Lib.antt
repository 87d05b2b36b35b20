pub mod Draws
pub mod Rows
