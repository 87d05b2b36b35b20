pub mod Planes
pub mod Pictures
pub mod Code
