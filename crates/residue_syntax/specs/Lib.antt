pub mod Quantisers
pub mod BlocksInPlanes
pub mod Sides
pub mod Residues
pub mod Code
