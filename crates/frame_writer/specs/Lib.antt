pub mod FrameSymbols
pub mod SaidFrames
pub mod FrameBytes
pub mod Code
pub use Rattle.tile_writer.specs as tile_writer
