pub mod Begun
pub mod FrameLists
pub mod Shows
pub mod Reads
