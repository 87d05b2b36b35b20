pub mod Pending
pub mod Finals
pub mod Held
