pub mod Slots
pub mod ShowingLemmas
pub mod FrameLemmas
pub mod RunLemmas
pub mod SegmentLemmas
pub mod HeaderReferences
pub mod PastLemmas
pub mod KeptFrames
pub mod OutputLemmas
pub use Rattle.frame_decoder.proofs as of_frame_decoder
pub use Rattle.frame_state.proofs as of_frame_state
