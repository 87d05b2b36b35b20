pub mod Runs
pub mod Eaches
pub mod Spells
pub mod EntryLaws
pub mod TreeTests
pub mod StoredTrees
pub mod Binds
