pub mod Fills
pub mod PacketLemmas
pub mod HeaderLemmas
