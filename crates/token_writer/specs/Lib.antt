pub mod TokenFits
pub mod Code
