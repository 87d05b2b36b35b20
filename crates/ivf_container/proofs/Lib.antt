pub mod Walks
pub mod Headers
pub mod Bodies
pub mod Files
