-- Strips of a tile column, each in planes of its own.
use Rattle.std.specs.Prelude.{ℕ, ◌≡◌, ◌<◌, ◌-◌, List, Option, Some, None}
use Rattle.std.specs.List.{All}
use Rattle.vp9_types.specs.declared.shape.Plane.{Plane}
use Rattle.vp9_types.specs.declared.shape.Plane.TheVariants.{Y, U, V}
use Rattle.vp9_types.specs.declared.shape.Shape.{Shape}
use Rattle.block_plan.specs.Planned.{PlannedBlock}
use Rattle.planes.specs.Pictures.{IsInRange, samples_of}
use Rattle.planes.specs.declared.frame_planes.FramePlanes.{FramePlanes}
use Rattle.block_rebuild.specs.InterBlocks.{Rebuilding}
use Rattle.block_rebuild.specs.Laws.{IsInColumn, IsRead}
use Rattle.block_rebuild.specs.Strips.{IsIn, in_plane, strip, strip_area, strip_places}
use Rattle.column_plan.specs.PlannedBlocks.{planned_blocks}
use Rattle.column_plan.specs.PlanRows.{AreInOrder}
use Rattle.frame_state.specs.KeptColumns.{limit_of}
use Rattle.tile_syntax.specs.declared.plans.ColumnPlan.{ColumnPlan}

---- A strip ----

-- planes lie where a strip does, with the row of samples above it
pub record HasStripAreas {X : Type 0} (shape : Shape) (from to r : ℕ) (f : FramePlanes X) : Type 0 where
  pub y : f.y.area ≡ strip_area shape Y from to r
  pub u : f.u.area ≡ strip_area shape U from to r
  pub v : f.v.area ≡ strip_area shape V from to r

-- They hold row r of superblocks of the tile column with these places and blocks: they lie there, each sample is in the range
-- of the depth, and in the row's own places they have the samples of the strip.
pub record HoldsStrip {X : Type 0} (put : Rebuilding) (from to r : ℕ) (column : List PlannedBlock) (f : FramePlanes X) : Type 0 where
  pub areas : HasStripAreas put.shape from to r f
  pub range : IsInRange put.shape.depth f
  pub samples : (p : Plane) (y x : ℕ) → IsIn (in_plane put.shape p (strip_places from to r)) y x → samples_of f p y x ≡ strip put column r p y x

---- By its column's plan ----

-- the blocks that a plan keeps, with their residues
abbrev pub blocks_of_plan : Shape → ColumnPlan → List PlannedBlock
blocks_of_plan shape p = planned_blocks shape p.column.grid.from p.column.grid.blocks p.residues

-- They are as a tile column's blocks are read: each lies in its frame, in one row of superblocks and in the column's superblocks,
-- and the rows of superblocks follow one another.
pub record IsReadPlan (shape : Shape) (p : ColumnPlan) : Type 0 where
  pub read : All (IsRead shape) (blocks_of_plan shape p)
  pub inside : All (IsInColumn p.column.grid.from (limit_of p.column)) (blocks_of_plan shape p)
  pub order : AreInOrder p.column.grid.blocks

-- planes hold row r of a plan's column
abbrev pub HoldsRowOf : {X : Type 0} → Rebuilding → ColumnPlan → ℕ → FramePlanes X → Type 0
HoldsRowOf put p r f = HoldsStrip put p.column.grid.from (limit_of p.column) r (blocks_of_plan put.shape p) f

-- what stands above row r: nothing above the first row, the row before it above any other
abbrev pub IsAbove : {X : Type 0} → Rebuilding → ColumnPlan → ℕ → Option (FramePlanes X) → Type 0
IsAbove put p r None = r ≡ 0
IsAbove put p r (Some f) = (0 < r) × HoldsRowOf put p (r - 1) f
