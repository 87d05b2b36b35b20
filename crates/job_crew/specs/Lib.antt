pub mod Runs
pub mod Code
pub mod Left
pub mod Events
