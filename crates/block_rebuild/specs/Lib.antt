pub mod InterBlocks
pub mod RebuiltBlocks
pub mod Residues
pub mod Strips
pub mod Laws
pub mod Code
