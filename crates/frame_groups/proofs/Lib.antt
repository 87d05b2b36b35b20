pub mod Files
pub mod PacketSteps
pub mod Fronts
pub mod GroupLemmas
pub mod RateLemmas
pub mod HeaderFronts
