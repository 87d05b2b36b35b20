use Rattle.std.proofs.Common.{ℕ, ◌<◌, ◌≤◌, ℤ, unsigned_abs, get_or}
use Rattle.inverse_transforms.proofs.narrow.widest.Given as goal

abbrev pub invariant-loop-x : goal.invariant-loop-x
invariant-loop-x l = (k : ℕ) (d : ℤ) → k < l.x-index → unsigned_abs (get_or l.xs k d) ≤ l.most
