pub mod Bands
pub mod Code
