pub mod Code
pub mod VectorFits
pub mod Laws
pub mod SaidVectors
