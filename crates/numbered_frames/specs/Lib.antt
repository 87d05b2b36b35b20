pub mod Films
pub mod FrameNumbers
pub mod Coded
pub mod NumberedPictures
pub use Rattle.seq_decoder.specs.frame_decoder as frame_decoder
pub use Rattle.seq_decoder.specs.frame_state as frame_state
pub use Rattle.seq_decoder.specs as seq_decoder
