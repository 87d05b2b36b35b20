pub mod Buffer
pub mod Code
pub mod Laws
