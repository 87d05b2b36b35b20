use Rattle.std.proofs.Common.{◌≡◌, ◌<◌, ◌≤◌, ℕ, length}
use Rattle.std.specs.Prelude.{slice_index_or}
use Rattle.std.specs.Vec.{vec_capacity}
use Rattle.band_needs.specs.declared.ranges.BandNeeds.{BandNeeds}
use Rattle.frame_steps.specs.StepResults.{row_needs_of}
use Rattle.frame_steps.proofs.needs.row_needs.Given as goal

abbrev pub invariant-loop-row : goal.invariant-loop-row
invariant-loop-row l = record {
  many : length l.list.items ≡ l.row;
  room : l.count ≤ vec_capacity l.list;
  each : (k : ℕ) (d : BandNeeds) → k < length l.list.items → slice_index_or l.list.items k d ≡ row_needs_of l.header k l.plan.column.grid.blocks;
}
