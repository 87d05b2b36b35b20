pub mod Lines
pub mod FilteredEdges
pub mod Code
