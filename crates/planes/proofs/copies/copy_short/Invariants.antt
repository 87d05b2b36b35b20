use Rattle.std.proofs.Common.{◌≡◌, ◌<◌, ℕ, get_or, map}
use Rattle.planes.proofs.copies.copy_short.Given as goal

abbrev pub invariant-loop-j : goal.invariant-loop-j
invariant-loop-j g l = (j : ℕ) → j < l.j → get_or (map g.P.Sample.value l.to) j 0 ≡ get_or (map g.P.Sample.value l.samples) j 0
