-- The transform blocks of a block in a plane (6.4.21 of the standard: residual): those whose start lies inside the frame,
-- which is a whole number of places of 8x8 luma samples, in raster order.
use Rattle.std.specs.Prelude.{ℕ, ◌+◌, ◌*◌, ◌/◌, ◌^◌, Bool, List, map, filter, max, nat_lt}
use Rattle.std.specs.Int.{div_ceil}
use Rattle.std.specs.List.{range_with_len, flat_map}
use Rattle.vp9_types.specs.declared.block.TxSize.{TxSize}
use Rattle.vp9_tables.specs.Numbers.{tx_number}
use Rattle.vp9_tables.specs.BlockTables.{width_of, height_of}
use Rattle.vp9_types.specs.Shapes.{halved}
use Rattle.block_geometry.specs.declared.transform_blocks.PlaneBlock.{PlaneBlock}
use Rattle.block_geometry.specs.declared.transform_blocks.FramePlaces.{FramePlaces}
use Rattle.block_geometry.specs.declared.transform_blocks.TransformGrid.{TransformGrid}
use Rattle.block_geometry.specs.declared.transform_blocks.TransformPlace.{TransformPlace}

-- a side of a block in a plane, in 4s. A block below 8x8 counts as 8x8
abbrev pub plane_side : Bool → ℕ → ℕ
plane_side ss side = halved ss (max 8 side) / 4

-- the first n multiples of a step
abbrev pub multiples : ℕ → ℕ → List ℕ
multiples step n = map (λ k. step * k) (range_with_len 0 n)

-- The multiples of the step below a side, which is in 4s, whose sample lies before the end. The side begins at the sample `base`.
unfoldable pub starts : ℕ → ℕ → ℕ → ℕ → List ℕ
starts step side base end = filter (λ at. nat_lt (base + 4 * at) end) (multiples step (div_ceil side step))

-- the place at a row and a column
abbrev pub place_at : ℕ → ℕ → TransformPlace
place_at y x = record { row = y; column = x }

-- rows and columns in raster order
abbrev pub raster : List ℕ → List ℕ → List TransformPlace
raster rows columns = flat_map (λ y. map (place_at y) columns) rows

-- 4s along a side of a transform
abbrev pub tx_step : TxSize → ℕ
tx_step tx = 2 ^ tx_number tx

abbrev pub start_rows : FramePlaces → PlaneBlock → List ℕ
start_rows frame block =
    starts (tx_step block.tx) (plane_side block.ss_y (height_of block.size)) (halved block.ss_y (8 * block.row)) (halved block.ss_y (8 * frame.rows))

abbrev pub start_columns : FramePlaces → PlaneBlock → List ℕ
start_columns frame block =
    starts (tx_step block.tx) (plane_side block.ss_x (width_of block.size)) (halved block.ss_x (8 * block.col)) (halved block.ss_x (8 * frame.cols))

-- where each of them begins
abbrev pub transform_blocks : FramePlaces → PlaneBlock → List TransformPlace
transform_blocks frame block = raster (start_rows frame block) (start_columns frame block)

-- those of a grid
abbrev pub grid_blocks : TransformGrid → List TransformPlace
grid_blocks grid = raster (multiples grid.step grid.rows) (multiples grid.step grid.columns)
