pub mod LentRows
pub mod LentReferences
pub mod LentStrips
pub use Rattle.filtered_rows.specs as filtered_rows
pub use Rattle.job_results.specs.frame_decoder as frame_decoder
pub use Rattle.job_results.specs.frame_state as frame_state
pub use Rattle.job_results.specs as job_results
pub use Rattle.job_results.specs.numbered_frames as numbered_frames
pub use Rattle.job_results.specs.seq_decoder as seq_decoder
