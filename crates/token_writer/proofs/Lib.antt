pub mod Tails
pub mod Bits
pub mod Turns
