pub mod TokenSymbols
pub mod Steps
pub mod Places
pub mod TokenKinds
pub mod Flags
pub mod Fit
pub mod Code
