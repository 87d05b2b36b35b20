pub mod JobSegments
pub mod Needs
pub mod Worlds
pub mod Truths
pub mod Sound
pub mod Code
pub mod Example
