pub mod Covers
pub mod Numbers
pub mod Transforms
pub mod Held
pub mod MapRows
