pub mod MadeFiles
pub mod FileReads
pub mod Code
pub use Rattle.seq_decoder.specs as seq_decoder
