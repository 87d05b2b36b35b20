pub mod Headings
pub mod Code
pub use Rattle.stream_forge.specs.seq_decoder as seq_decoder
