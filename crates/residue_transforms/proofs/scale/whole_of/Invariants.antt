use Rattle.std.proofs.Common.{ℕ, ◌<◌, ◌≤◌, unsigned_abs}
use Rattle.inverse_transforms.specs.Flow.{at}
use Rattle.residue_transforms.proofs.scale.whole_of.Given as goal

abbrev pub invariant-loop-place : goal.invariant-loop-place
invariant-loop-place l = (k : ℕ) → k < l.place → unsigned_abs (at l.levels k) ≤ l.whole
