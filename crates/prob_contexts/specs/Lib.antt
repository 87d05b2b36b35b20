pub mod ProbLists
pub mod Kinds
pub mod Counted
pub mod Code
pub mod Defaults
