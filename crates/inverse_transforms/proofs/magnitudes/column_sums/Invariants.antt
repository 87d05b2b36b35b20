use Rattle.std.proofs.Common.{◌≡◌, ℕ, ◌+◌, ◌<◌, drop, slice_index_or}
use Rattle.inverse_transforms.specs.Flow.{magnitude}
use Rattle.inverse_transforms.specs.LaneColumns.{column}
use Rattle.inverse_transforms.proofs.magnitudes.column_sums.Given as goal

abbrev pub invariant-loop-row : goal.invariant-loop-row
invariant-loop-row l = (j : ℕ) → j < 8 → slice_index_or l.sums j 0 + magnitude (column j (drop l.row-index l.t)) ≡ magnitude (column j l.t)
