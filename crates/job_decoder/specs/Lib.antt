pub mod SinkOutputs
pub mod Pasts
pub mod Reaches
pub mod Code
pub use Rattle.job_rows.specs.frame_decoder as frame_decoder
pub use Rattle.job_rows.specs.numbered_frames as numbered_frames
pub use Rattle.job_rows.specs.seq_decoder as seq_decoder
