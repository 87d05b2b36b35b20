pub mod WrittenFields
pub mod WellFormed
pub mod HeaderReads
pub mod Spelling
pub mod Code
