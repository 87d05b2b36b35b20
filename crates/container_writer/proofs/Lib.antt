pub mod WrittenFiles
pub mod WrittenIndexes
