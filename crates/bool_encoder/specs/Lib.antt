pub mod Part
pub mod WrittenBools
pub mod TreeEntries
pub mod Code
pub mod Laws
pub mod CountedBools
