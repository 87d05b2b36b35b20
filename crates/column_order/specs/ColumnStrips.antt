-- Where the superblocks of a tile column begin and end, and what a frame's samples are there.
use Rattle.std.specs.Prelude.{◌≡◌, ℕ, ◌+◌, ◌-◌, ◌*◌, List}
use Rattle.vp9_types.specs.Shapes.{mi_cols}
use Rattle.vp9_types.specs.Sizes.{superblocks_along}
use Rattle.frame_headers.specs.HeaderState.{shape_of}
use Rattle.frame_headers.specs.declared.header.Header.{Header}
use Rattle.vp9_types.specs.declared.shape.Plane.{Plane}
use Rattle.planes.specs.Pictures.{blank}
use Rattle.block_plan.specs.Planned.{PlannedBlock}
use Rattle.block_rebuild.specs.InterBlocks.{Rebuilding}
use Rattle.block_rebuild.specs.Strips.{IsIn, in_plane, strip, strip_places, with_blocks}
use Rattle.frame_state.specs.TilePlaces.{tile_offset}

-- the first column, in places of 8x8, of the k-th tile column
abbrev pub column_from : Header → ℕ → ℕ
column_from header k = tile_offset (mi_cols (shape_of header)) header.params.tiles.columns_log2 k

-- the end of its superblocks, of which the last may reach over the frame's right edge
abbrev pub column_to : Header → ℕ → ℕ
column_to header k = column_from header k + 8 * superblocks_along (column_from header (k + 1) - column_from header k)

-- A frame's samples before the loop filter are, in row r of superblocks of the k-th tile column, the strip that the column's
-- blocks make.
abbrev pub IsColumnStrip : Rebuilding → Header → ℕ → ℕ → List PlannedBlock → List PlannedBlock → Type 0
IsColumnStrip put header k r blocks column = (p : Plane) (y x : ℕ) → IsIn (in_plane put.shape p (strip_places (column_from header k) (column_to header k) r)) y x →
    with_blocks put blank blocks p y x ≡ strip put column r p y x
