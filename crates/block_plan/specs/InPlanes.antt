-- A block in a plane of its frame: its transform blocks, and their modes (6.4.21 and 6.4.23 of the standard: residual,
-- get_uv_tx_size).
use Rattle.std.specs.Prelude.{ℕ, ◌+◌, ◌*◌, ◌&&◌, List, slice_index_or, if◌then◌else◌}
use Rattle.vp9_types.specs.Shapes.{is_chroma}
use Rattle.vp9_types.specs.declared.block.BlockSize.{BlockSize}
use Rattle.vp9_types.specs.declared.block.IntraMode.{IntraMode}
use Rattle.vp9_types.specs.declared.block.IntraMode.TheVariants.{Dc}
use Rattle.vp9_types.specs.declared.block.TxSize.{TxSize}
use Rattle.vp9_types.specs.declared.shape.Plane.{Plane}
use Rattle.vp9_types.specs.declared.shape.Shape.{Shape}
use Rattle.vp9_tables.specs.BlockTables.{uv_number}
use Rattle.vp9_tables.specs.Numbers.{tx_of}
use Rattle.block_geometry.specs.FrameShapes.{places_of}
use Rattle.block_geometry.specs.BlockSizes.{is_below_8x8}
use Rattle.block_geometry.specs.TransformBlocks.{transform_blocks}
use Rattle.block_geometry.specs.declared.transform_blocks.PlaneBlock.{PlaneBlock}
use Rattle.block_geometry.specs.declared.transform_blocks.TransformPlace.{TransformPlace}
use Rattle.block_plan.specs.declared.block.BlockInfo.{BlockInfo}
use Rattle.block_plan.specs.declared.block.IntraPrediction.{IntraPrediction}

-- get_uv_tx_size
abbrev pub tx_in : Shape → BlockInfo → Plane → TxSize
tx_in shape b p = if is_chroma p then tx_of (uv_number b.size b.tx shape.ss_x shape.ss_y) else b.tx

-- only chroma is subsampled
abbrev pub plane_block : Shape → BlockInfo → Plane → PlaneBlock
plane_block shape b p = record {
  row = b.row;
  col = b.col;
  size = b.size;
  tx = tx_in shape b p;
  ss_x = is_chroma p && shape.ss_x;
  ss_y = is_chroma p && shape.ss_y;
}

-- the places of its transform blocks, in order
abbrev pub places_in : Shape → BlockInfo → Plane → List TransformPlace
places_in shape b p = transform_blocks (places_of shape) (plane_block shape b p)

-- a block below 8x8 has a mode for each quarter of its luma
abbrev pub quarter_at : BlockSize → ℕ → ℕ → ℕ
quarter_at size y x = if is_below_8x8 size then 2 * y + x else 0

-- the mode of the transform block at row y and column x
abbrev pub mode_at : IntraPrediction → BlockSize → Plane → ℕ → ℕ → IntraMode
mode_at modes size p y x = if is_chroma p then modes.chroma else slice_index_or modes.luma (quarter_at size y x) Dc
