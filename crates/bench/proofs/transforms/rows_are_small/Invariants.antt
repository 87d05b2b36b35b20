use Rattle.std.proofs.Common.{ℕ, ◌<◌, ℤ, List, All, get_or}
use Rattle.inverse_transforms.specs.Ranges.{IsSmall}
use Rattle.bench.proofs.transforms.rows_are_small.Given as goal

abbrev pub invariant-loop-row : goal.invariant-loop-row
invariant-loop-row l = (k : ℕ) (d : List ℤ) → k < l.row-index → All IsSmall (get_or l.t k d)
