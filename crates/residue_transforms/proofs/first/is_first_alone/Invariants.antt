use Rattle.std.proofs.Common.{◌≡◌, ℕ, ◌<◌, pos}
use Rattle.std.specs.Bool.{OnTrue}
use Rattle.inverse_transforms.specs.Flow.{at}
use Rattle.residue_transforms.proofs.first.is_first_alone.Given as goal

abbrev pub invariant-loop-place : goal.invariant-loop-place
invariant-loop-place l = OnTrue l.all ((k : ℕ) → 0 < k → k < l.place → at l.block k ≡ pos 0)
