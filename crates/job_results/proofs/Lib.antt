pub mod Decoding
pub mod Variants
pub mod Later
pub mod GroupDue
pub mod CodedFrames
pub mod NamedSlots
pub mod SlotLists
pub mod FrameHeights
pub mod ReadBands
pub mod TrueRules
pub mod KeptSpans
pub use Rattle.numbered_frames.proofs.of_frame_state as of_frame_state
pub use Rattle.numbered_frames.proofs as of_numbered_frames
pub use Rattle.numbered_frames.proofs.of_seq_decoder as of_seq_decoder
