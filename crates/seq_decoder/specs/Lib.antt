pub mod DecoderState
pub mod SavedContexts
pub mod After
pub mod Runs
pub mod Outputs
pub mod Outcomes
pub mod Code
pub use Rattle.frame_decoder.specs as frame_decoder
pub use Rattle.frame_state.specs as frame_state
