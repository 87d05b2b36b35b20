pub mod BufferRows
pub mod Buffers
pub mod Code
pub mod Laws
