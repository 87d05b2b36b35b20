pub mod CodedFrames
pub mod DueRows
pub mod FilteredSteps
pub mod NamedFrames
pub mod StripSteps
pub use Rattle.job_results.proofs as of_job_results
pub use Rattle.job_results.proofs.of_numbered_frames as of_numbered_frames
pub use Rattle.picture_range.proofs as of_picture_range
pub use Rattle.job_results.proofs.of_seq_decoder as of_seq_decoder
