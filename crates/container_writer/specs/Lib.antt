pub mod Files
pub mod Indexes
