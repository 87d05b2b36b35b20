-- A plan and the tile column that is read.
use Rattle.std.specs.Prelude.{ℕ, ◌≡◌}
use Rattle.frame_headers.specs.HeaderState.{shape_of}
use Rattle.frame_headers.specs.declared.header.Header.{Header}
use Rattle.frame_state.specs.KeptColumns.{limit_of}
use Rattle.frame_state.specs.FrameReading.{Column}
use Rattle.tile_syntax.specs.declared.plans.ColumnPlan.{ColumnPlan}
use Rattle.column_order.specs.ColumnStrips.{column_from, column_to}
use Rattle.recon_rows.specs.OwnStrips.{blocks_of_plan}

-- A plan has the blocks of the k-th tile column of a frame, and its places.
pub record IsPlanOf (header : Header) (k : ℕ) (read : Column) (p : ColumnPlan) : Type 0 where
  pub blocks : blocks_of_plan (shape_of header) p ≡ read.blocks
  pub from : p.column.grid.from ≡ column_from header k
  pub to : limit_of p.column ≡ column_to header k
