pub mod Streams
pub mod Code
pub use Rattle.job_decoder.specs.seq_decoder as seq_decoder
