pub mod ListedBlocks
pub mod Code
pub mod InterTests
pub mod IntraTests
pub mod ListedLevels
pub mod StartTests
pub use Rattle.frame_writer.specs as frame_writer
