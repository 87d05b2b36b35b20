pub mod Ways
pub mod SlotFrames
pub mod LaterFrames
pub mod SlotNumbers
pub use Rattle.seq_decoder.proofs.of_frame_state as of_frame_state
pub use Rattle.seq_decoder.proofs as of_seq_decoder
