pub mod Kept
pub mod StepResults
pub use Rattle.recon_rows.specs.column_order as column_order
pub use Rattle.frame_close.specs as frame_close
pub use Rattle.recon_rows.specs as recon_rows
pub use Rattle.recon_rows.specs.tile_syntax as tile_syntax
