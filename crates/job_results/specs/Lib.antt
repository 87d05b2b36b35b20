pub mod ResultPlanes
pub mod Slots
pub mod RowReads
pub mod JobResults
pub mod Meaning
pub mod Groups
pub mod Endings
pub mod Lent
pub use Rattle.frame_steps.specs.column_order as column_order
pub use Rattle.frame_steps.specs.frame_close as frame_close
pub use Rattle.numbered_frames.specs.frame_decoder as frame_decoder
pub use Rattle.numbered_frames.specs.frame_state as frame_state
pub use Rattle.frame_steps.specs as frame_steps
pub use Rattle.numbered_frames.specs as numbered_frames
pub use Rattle.numbered_frames.specs.seq_decoder as seq_decoder
pub use Rattle.frame_steps.specs.tile_syntax as tile_syntax
