-- A row of superblocks of a tile column, as its plan keeps it.
use Rattle.std.specs.Prelude.{ℕ, ℤ, List, drop, slice_range, ◌+◌}
use Rattle.vp9_types.specs.Maps.{FrameMap}
use Rattle.vp9_types.specs.declared.shape.Plane.{Plane}
use Rattle.vp9_types.specs.declared.shape.Shape.{Shape}
use Rattle.block_plan.specs.Planned.{PlannedBlock}
use Rattle.block_plan.specs.declared.block.BlockInfo.{BlockInfo}
use Rattle.planes.specs.declared.frame_planes.FramePlanes.{FramePlanes}
use Rattle.block_rebuild.specs.Code.{AreServed, HoldsBlockIn}
use Rattle.block_rebuild.specs.declared.references.Rebuilding as code
use Rattle.column_plan.specs.PlannedBlocks.{planned_blocks}
use Rattle.column_plan.specs.PlanRows.{place_of_row}

-- its blocks: those from where the row begins to where the next one begins
abbrev pub blocks_between : Shape → ℕ → List BlockInfo → List BlockInfo
blocks_between shape row blocks = slice_range blocks (place_of_row shape row blocks).block (place_of_row shape (row + 1) blocks).block

-- with their residues, which are pieces one behind another from the row's first one on
abbrev pub planned_between : Shape → ℕ → ℕ → List BlockInfo → List (List ℤ) → List PlannedBlock
planned_between shape tile_from row blocks pieces =
    planned_blocks shape tile_from (blocks_between shape row blocks) (drop (place_of_row shape row blocks).piece pieces)

-- What a block needs besides its plan: the pictures that it refers to serve it, and the planes hold it and what is around it.
pub record IsProvided {S X : Type 0} (holds : S → Plane → ℕ → Type 0) (width : S → Plane → ℕ) (map : S → FrameMap) (by : code.Rebuilding S) (tile_from : ℕ) (f : FramePlanes X) (b : BlockInfo) : Type 0 where
  pub served : AreServed holds width map by b b.prediction
  pub part : HoldsBlockIn by.shape tile_from b f
