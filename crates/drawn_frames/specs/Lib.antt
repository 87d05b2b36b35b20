pub mod MadeFrames
pub mod FrameStarts
pub mod Params
pub mod Heads
pub mod ModeDraws
pub mod Code
pub mod FrameTests
pub mod BlockLevelDraws
pub mod SymbolDraws
pub use Rattle.drawn_symbols.specs as drawn_symbols
pub use Rattle.frame_writer.specs as frame_writer
pub use Rattle.frame_writer.specs.tile_writer as tile_writer
