pub mod SampleSizes
pub mod BlockEdges
pub mod Places
pub mod PredictedModes
pub mod Residue
pub mod Steps
pub mod Code
pub mod Laws
