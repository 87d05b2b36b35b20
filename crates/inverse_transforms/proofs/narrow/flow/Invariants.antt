use Rattle.std.proofs.Common.{◌≡◌, ℕ, ◌<◌, ◌^◌, drop, All}
use Rattle.inverse_transforms.specs.Flow.{run_flow}
use Rattle.inverse_transforms.specs.LaneColumns.{column}
use Rattle.inverse_transforms.specs.Ranges.{IsSmall, IsNarrow}
use Rattle.inverse_transforms.proofs.narrow.flow.Given as goal

abbrev pub invariant-loop-row : goal.invariant-loop-row
invariant-loop-row l = record {
  small : All (All IsSmall) l.t;
  narrow : (j : ℕ) → j < 8 → All IsNarrow (column j l.t);
  left : (j : ℕ) → j < 8 → run_flow (2 ^ 15) (drop l.row-index l.rows) (column j l.t) ≡ run_flow (2 ^ 15) l.rows (column j l.initial.t);
}
