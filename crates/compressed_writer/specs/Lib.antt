pub mod CodedUpdates
pub mod Spelling
pub mod HeaderBytes
pub mod Code
