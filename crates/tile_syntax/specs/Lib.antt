pub mod Code
pub use Rattle.frame_state.specs as frame_state
