use Rattle.std.proofs.Common.{ℕ, ◌<◌, ℤ, get_or}
use Rattle.inverse_transforms.specs.Ranges.{IsSmall}
use Rattle.residue_transforms.specs.Residue.{IsLevel}
use Rattle.bench.proofs.transforms.are_small.Given as goal

abbrev pub invariant-loop-x : goal.invariant-loop-x
invariant-loop-x l = record {
  small : (k : ℕ) (d : ℤ) → k < l.x-index → IsSmall (get_or l.xs k d);
  level : (k : ℕ) (d : ℤ) → k < l.x-index → IsLevel (get_or l.xs k d);
}
