-- A plan that holds what is read of a tile column.
use Rattle.std.proofs.Common.{◌≡◌, ◌+◌, ◌*◌, ◌-◌, ◌∷◌, [], ℕ, ℤ, List, refl, sym, ◌∙◌, ap, subst}
use Rattle.std.specs.Prelude.{Ok, drop}
use Rattle.std.specs.List.{All}
use Rattle.vp9_types.specs.Sizes.{superblocks_along}
use Rattle.vp9_types.specs.declared.shape.Shape.{Shape}
use Rattle.frame_headers.specs.Spans.{tile_count}
use Rattle.frame_headers.specs.HeaderState.{shape_of}
use Rattle.counting_reader.specs.Counting.{Settled}
use Rattle.block_plan.specs.Planned.{PlannedBlock}
use Rattle.block_plan.specs.declared.block.BlockInfo.{BlockInfo}
use Rattle.block_rebuild.specs.Laws.{IsInColumn, IsRead}
use Rattle.column_plan.specs.PlannedBlocks.{count_of, planned_blocks}
use Rattle.column_plan.specs.PlanRows as rows
use Rattle.frame_state.specs.KeptColumns.{IsTileColumn, limit_of}
use Rattle.frame_state.specs.ColumnPlans.{ColumnRead, plan_of}
use Rattle.frame_state.specs.FrameReading.{infos}
use Rattle.frame_state.specs.Sources.{FrameSources}
use Rattle.tile_syntax.specs.Code.{HoldsColumn}
use Rattle.tile_syntax.specs.declared.plans.ColumnPlan.{ColumnPlan}
use Rattle.column_order.specs.ColumnStrips.{column_from, column_to}
use Rattle.column_order.proofs.ColumnFollows.{plan_follows}
use Rattle.column_order.proofs.Follows.{infos_in_order}
use Rattle.recon_rows.specs.Laws.{IsPlanOf}
use Rattle.recon_rows.specs.OwnStrips.{IsReadPlan}

infos_of : (shape : Shape) (tile_from : ℕ) (blocks : List BlockInfo) (pieces : List (List ℤ)) → infos (planned_blocks shape tile_from blocks pieces) ≡ blocks
unfolding planned_blocks
infos_of shape tile_from [] pieces = refl
infos_of shape tile_from (b ∷ blocks) pieces = ap (λ (bs : List BlockInfo). b ∷ bs) (infos_of shape tile_from blocks (drop (count_of shape b) pieces))

pub plan_is : (by : FrameSources) (k : ℕ) (read : Settled ColumnRead) (plan : ColumnPlan) → HoldsColumn (shape_of by.header) plan read.value.column → IsTileColumn by.header (tile_count by.header) k plan.column
    → IsPlanOf by.header k read.value.column plan
plan_is by k read plan holds column = record {
  blocks = holds.blocks;
  from = column.from;
  to = λ i. column.from i + 8 * superblocks_along (column.to i - column.from i);
}

pub plan_read : (by : FrameSources) (bytes : ℕ → List ℕ) (k : ℕ) (read : Settled ColumnRead) (plan : ColumnPlan) → plan_of by bytes k ≡ Ok read → HoldsColumn (shape_of by.header) plan read.value.column
    → IsTileColumn by.header (tile_count by.header) k plan.column → IsReadPlan (shape_of by.header) plan
plan_read by bytes k read plan reads holds column =
    let follow = plan_follows by bytes k read reads in
    let is = plan_is by k read plan holds column in
    record {
      read = subst (All (IsRead (shape_of by.header))) (sym is.blocks) follow.placed;
      inside = subst (All (IsInColumn plan.column.grid.from (limit_of plan.column))) (sym is.blocks)
          (subst (λ n. All (IsInColumn n (limit_of plan.column)) read.value.column.blocks) (sym is.from)
          (subst (λ n. All (IsInColumn (column_from by.header k) n) read.value.column.blocks) (sym is.to) follow.inside));
      order = subst rows.AreInOrder (ap infos (sym is.blocks) ∙ infos_of (shape_of by.header) plan.column.grid.from plan.column.grid.blocks plan.residues) (infos_in_order read.value.column.blocks follow.order);
    }
