pub mod BlockParts
pub mod RebuiltRows
pub mod OwnStrips
pub mod Laws
pub mod Code
pub use Rattle.column_order.specs as column_order
pub use Rattle.frame_state.specs as frame_state
pub use Rattle.tile_syntax.specs as tile_syntax
