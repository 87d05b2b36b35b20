pub mod Groups
pub mod Openings
pub mod Code
pub mod Laws
