pub mod Groups
pub mod GroupRules
pub mod ReadSpans
pub mod Ends
pub mod Shown
pub mod GroupEnds
pub mod GroupOver
pub mod PastFrames
pub mod Reaching
pub mod RowsTaken
pub mod Behind
pub use Rattle.job_rows.proofs.of_numbered_frames as of_numbered_frames
pub use Rattle.job_rows.proofs.of_seq_decoder as of_seq_decoder
