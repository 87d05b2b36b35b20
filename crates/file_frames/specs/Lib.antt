pub mod Containers
pub mod Cursors
pub mod Props
pub mod FileFrames
pub mod Walks
pub mod Laws
pub mod Code
