pub mod Merge
pub mod Adaptation
pub mod Laws
pub mod Code
