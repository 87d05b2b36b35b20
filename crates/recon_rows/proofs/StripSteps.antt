-- A strip made of its column's plan.
use Rattle.std.proofs.Common.{◌≡◌, ◌<◌, ℕ, List, sym, ◌∙◌, ap}
use Rattle.std.specs.Prelude.{IfSome, None, Option, Some}
use Rattle.vp9_types.specs.Shapes.{mi_rows}
use Rattle.vp9_types.specs.Sizes.{superblocks_along}
use Rattle.vp9_types.specs.declared.shape.Plane.{Plane}
use Rattle.vp9_types.specs.Maps.{Map}
use Rattle.vp9_types.specs.declared.shape.Shape.{Shape}
use Rattle.block_plan.specs.Planned.{PlannedBlock}
use Rattle.planes.specs.Pictures.{IsInRange, samples_of}
use Rattle.planes.specs.declared.frame_planes.FramePlanes.{FramePlanes}
use Rattle.block_rebuild.specs.Code.{HasAreasOf}
use Rattle.block_rebuild.specs.InterBlocks.{Rebuilding}
use Rattle.block_rebuild.specs.Laws.{SameFrameAround}
use Rattle.block_rebuild.specs.Strips.{above_strip, row_blocks, strip_places, with_blocks}
use Rattle.block_rebuild.proofs.Columns.{makes_strip}
use Rattle.column_plan.specs.PlanRows.{planned_in_row}
use Rattle.frame_state.specs.KeptColumns.{limit_of}
use Rattle.tile_syntax.specs.declared.plans.ColumnPlan.{ColumnPlan}
use Rattle.recon_rows.specs.Code.{Begins, ShareFirstRows}
use Rattle.recon_rows.specs.OwnStrips.{HasStripAreas, HoldsRowOf, IsAbove, IsReadPlan, blocks_of_plan}
use Rattle.recon_rows.proofs.StripBegins.{all_share, begun_below, begun_first, below_in_range, zeros_in_range}

pub may_begin : {X : Type 0} (put : Rebuilding) (plan : ColumnPlan) (r : ℕ) (above : Option (FramePlanes X)) (f : FramePlanes X) → r < superblocks_along (mi_rows put.shape)
    → HasStripAreas put.shape plan.column.grid.from (limit_of plan.column) r f → IsAbove put plan r above → IfSome above (λ a. ShareFirstRows f a)
may_begin put plan r None f low areas is = tt
may_begin put plan r (Some a) f low areas is = all_share put plan.column.grid.from (limit_of plan.column) r (blocks_of_plan put.shape plan) f a is.0 low areas is.1

pub areas_stay : {X : Type 0} (shape : Shape) (from to r : ℕ) (f g : FramePlanes X) → HasStripAreas shape from to r f → HasAreasOf f g → HasStripAreas shape from to r g
areas_stay shape from to r f g areas same = record { y = same.y ∙ areas.y; u = same.u ∙ areas.u; v = same.v ∙ areas.v }

pub begun_around : {X : Type 0} (put : Rebuilding) (plan : ColumnPlan) (r : ℕ) (above : Option (FramePlanes X)) (f : FramePlanes X)
    → HasStripAreas put.shape plan.column.grid.from (limit_of plan.column) r f → IsAbove put plan r above → Begins above f
    → SameFrameAround put.shape (strip_places plan.column.grid.from (limit_of plan.column) r) (samples_of f) (above_strip put (blocks_of_plan put.shape plan) r)
begun_around put plan r None f areas is begun = begun_first put plan.column.grid.from (limit_of plan.column) r (blocks_of_plan put.shape plan) f is begun
begun_around put plan r (Some a) f areas is begun = begun_below put plan.column.grid.from (limit_of plan.column) r (blocks_of_plan put.shape plan) a f is.0 areas is.1 begun

pub begun_range : {X : Type 0} (put : Rebuilding) (plan : ColumnPlan) (r : ℕ) (above : Option (FramePlanes X)) (f : FramePlanes X) → IsAbove put plan r above → Begins above f
    → IsInRange put.shape.depth f
begun_range put plan r None f is begun = zeros_in_range put.shape.depth f begun
begun_range put plan r (Some a) f is begun = below_in_range put.shape.depth a f is.1.range begun

pub strip_made : {X : Type 0} (put : Rebuilding) (plan : ColumnPlan) (r : ℕ) (begun new : FramePlanes X) → IsReadPlan put.shape plan
    → HasStripAreas put.shape plan.column.grid.from (limit_of plan.column) r new → IsInRange put.shape.depth new
    → SameFrameAround put.shape (strip_places plan.column.grid.from (limit_of plan.column) r) (samples_of begun) (above_strip put (blocks_of_plan put.shape plan) r)
    → samples_of new ≡ with_blocks put (samples_of begun) (planned_in_row r (blocks_of_plan put.shape plan)) → HoldsRowOf put plan r new
unfolding row_blocks
strip_made put plan r begun new read areas range around made = record {
  areas = areas;
  range = range;
  samples = λ p y x i. ap (λ (m : Plane → Map). m p y x) made
      ∙ makes_strip put plan.column.grid.from (limit_of plan.column) r (blocks_of_plan put.shape plan) read.read read.inside (samples_of begun) around p y x i;
}
