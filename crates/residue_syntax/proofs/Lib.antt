pub mod ResidueReads
pub mod PlaneReads
pub mod BlockReads
