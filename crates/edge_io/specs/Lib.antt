pub mod Filling
pub mod SourceReading
pub mod Putting
pub mod Memory
pub mod System
pub mod Prefixed
pub mod Buffered
