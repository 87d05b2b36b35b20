pub mod Vectors
pub mod Candidates
pub mod SubBlocks
pub mod Code
pub mod Laws
