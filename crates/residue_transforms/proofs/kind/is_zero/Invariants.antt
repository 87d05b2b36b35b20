use Rattle.std.proofs.Common.{◌≡◌, ℕ, ◌<◌, pos, get_or, []}
use Rattle.inverse_transforms.specs.Flow.{at}
use Rattle.residue_transforms.proofs.kind.is_zero.Given as goal

abbrev pub invariant-loop-row : goal.invariant-loop-row
invariant-loop-row l = (k : ℕ) → k < l.row-index → (j : ℕ) → at (get_or l.t k []) j ≡ pos 0
