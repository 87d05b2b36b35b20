pub mod LaneLemmas
pub mod NumberLemmas
pub mod ByteLemmas
pub mod DepthLemmas
