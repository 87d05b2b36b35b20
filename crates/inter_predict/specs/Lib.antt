pub mod InterSamples
pub mod Code
