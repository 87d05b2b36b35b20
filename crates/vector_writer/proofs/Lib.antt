pub mod Bits
pub mod Modes
pub mod Readings
pub mod Sayables
pub mod SayableBlocks
pub mod Sayings
