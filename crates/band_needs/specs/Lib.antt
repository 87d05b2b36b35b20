pub mod Ranges
pub mod BandReads
pub mod Needs
pub mod Code
