-- What the code's grids keep.
use Rattle.std.specs.Prelude.{◌*◌, ◌≤◌}
use Rattle.block_geometry.specs.declared.transform_blocks.TransformGrid.{TransformGrid}

-- the grid of a block's transform blocks: no block has more than 16 rows or columns of 4s
pub record IsSmallGrid (grid : TransformGrid) : Type 0 where
  pub some : 1 ≤ grid.step
  pub rows : grid.step * grid.rows ≤ 16
  pub columns : grid.step * grid.columns ≤ 16
