pub mod TakenPackets
pub mod Code
