use Rattle.std.proofs.Common.{◌≡◌, ℕ, ◌<◌, drop, All}
use Rattle.inverse_transforms.specs.Flow.{run_flow}
use Rattle.inverse_transforms.specs.LaneColumns.{column}
use Rattle.inverse_transforms.specs.Ranges.{IsSmall}
use Rattle.inverse_transforms.proofs.lane_steps.flow.Given as goal

abbrev pub invariant-loop-row : goal.invariant-loop-row
invariant-loop-row l = record {
  small : All (All IsSmall) l.t;
  left : (j : ℕ) → j < 8 → run_flow l.limit (drop l.row-index l.rows) (column j l.t) ≡ run_flow l.limit l.rows (column j l.initial.t);
}
