use Rattle.std.proofs.Common.{ℕ, ◌<◌, ℤ, get_or}
use Rattle.inverse_transforms.specs.Ranges.{IsSmall}
use Rattle.picture_tests.proofs.transforms.are_small.Given as goal

abbrev pub invariant-loop-x : goal.invariant-loop-x
invariant-loop-x l = (k : ℕ) (d : ℤ) → k < l.x-index → IsSmall (get_or l.xs k d)
