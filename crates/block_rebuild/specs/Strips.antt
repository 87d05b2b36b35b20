-- Strips: a frame put together tile column by tile column, and in each one row of superblocks after another. A strip is what
-- the blocks of a row of superblocks of a tile column make of its samples, before the loop filter.
use Rattle.std.specs.Prelude.{ℕ, zero, suc, ◌+◌, ◌-◌, ◌*◌, ◌/◌, min, ◌≤◌, ◌<◌, Bool, List, nat_eq, if◌then◌else◌}
use Rattle.std.specs.List.{filter, fold}
use Rattle.vp9_types.specs.Maps.{FrameMap}
use Rattle.vp9_types.specs.Shapes.{halved}
use Rattle.vp9_types.specs.declared.shape.Plane.{Plane}
use Rattle.vp9_types.specs.declared.shape.Shape.{Shape}
use Rattle.block_plan.specs.Planned.{PlannedBlock}
use Rattle.inter_places.specs.Places.{is_subsampled, coded_length}
use Rattle.inter_places.specs.declared.part.Direction.TheVariants.{Down, Across}
use Rattle.planes.specs.Pictures.{blank}
use Rattle.planes.specs.declared.area.Area.{Area}
use Rattle.block_rebuild.specs.RebuiltBlocks.{put_planned}
use Rattle.block_rebuild.specs.InterBlocks.{Rebuilding}

---- Regions ----

-- some rows and columns, each from a first one to the one behind the last
pub record Region : Type 0 where
  pub top : ℕ
  pub bottom : ℕ
  pub left : ℕ
  pub right : ℕ

pub record IsIn (g : Region) (y x : ℕ) : Type 0 where
  pub below : g.top ≤ y
  pub above : y < g.bottom
  pub behind : g.left ≤ x
  pub before : x < g.right

-- in a region, or in the row just above it
pub record IsAround (g : Region) (y x : ℕ) : Type 0 where
  pub below : g.top ≤ y + 1
  pub above : y < g.bottom
  pub behind : g.left ≤ x
  pub before : x < g.right

-- the samples of a plane in a region of places of 8x8 luma samples
abbrev pub in_plane : Shape → Plane → Region → Region
in_plane shape p g = record {
  top = halved (is_subsampled shape p Down) (8 * g.top);
  bottom = halved (is_subsampled shape p Down) (8 * g.bottom);
  left = halved (is_subsampled shape p Across) (8 * g.left);
  right = halved (is_subsampled shape p Across) (8 * g.right);
}

-- the places of row r of superblocks in a tile's columns
abbrev pub strip_places : ℕ → ℕ → ℕ → Region
strip_places from to r = record { top = 8 * r; bottom = 8 * (r + 1); left = from; right = to }

---- Strips ----

-- the row of superblocks that a block lies in
abbrev pub superblock_row : PlannedBlock → ℕ
superblock_row b = b.info.row / 8

-- blocks of a tile whose columns begin at `from`
abbrev pub is_in_column : ℕ → PlannedBlock → Bool
is_in_column from b = nat_eq b.tile_from from

abbrev pub is_in_row : ℕ → PlannedBlock → Bool
is_in_row r b = nat_eq (superblock_row b) r

unfoldable pub column_blocks : ℕ → List PlannedBlock → List PlannedBlock
column_blocks from blocks = filter (is_in_column from) blocks

unfoldable pub row_blocks : ℕ → List PlannedBlock → List PlannedBlock
row_blocks r blocks = filter (is_in_row r) blocks

-- blocks put in, one after another
unfoldable pub with_blocks : Rebuilding → FrameMap → List PlannedBlock → FrameMap
with_blocks by m blocks = fold (λ f b. put_planned by b f) m blocks

-- of each plane only the last row of samples above a row of places; all else is 0
abbrev pub last_row_above : Shape → ℕ → FrameMap → FrameMap
last_row_above shape row m = λ p y x. if nat_eq (y + 1) (halved (is_subsampled shape p Down) (8 * row)) then m p y x else 0

-- what row r of superblocks makes of the samples of its tile column that stand above it
abbrev pub strip_below : Rebuilding → List PlannedBlock → ℕ → FrameMap → FrameMap
strip_below by column r above = with_blocks by above (row_blocks r column)

-- the strips of a tile column, whose blocks these are: of the strip above one only the last row is needed
unfoldable pub strip : Rebuilding → List PlannedBlock → ℕ → FrameMap
strip by column zero = strip_below by column 0 blank
strip by column (suc r) = strip_below by column (r + 1) (last_row_above by.shape (8 * (r + 1)) (strip by column r))

-- what stands above a strip
abbrev pub above_strip : Rebuilding → List PlannedBlock → ℕ → FrameMap
above_strip by column zero = blank
above_strip by column (suc r) = last_row_above by.shape (8 * (r + 1)) (strip by column r)

-- where it lies in a plane, with the row above it
abbrev pub strip_area : Shape → Plane → ℕ → ℕ → ℕ → Area
strip_area shape p from to r =
    let g = in_plane shape p (strip_places from to r) in record {
      first_row = g.top - 1;
      first_column = g.left;
      rows = min (coded_length shape p Down) g.bottom - (g.top - 1);
      columns = min (coded_length shape p Across) g.right - g.left;
    }
