pub mod Filter
pub mod Code
