pub mod Modes
pub mod Below
pub mod InRange
