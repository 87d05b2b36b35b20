use Rattle.std.proofs.Common.{◌≡◌, ◌<◌, ℕ, get_or, map}
use Rattle.intra_predict.proofs.kept.widen_front.Given as goal

abbrev pub invariant-loop-k : goal.invariant-loop-k
invariant-loop-k g l = (k : ℕ) → k < l.k → get_or l.line k 0 ≡ get_or (map g.P.Sample.value l.from) k 0
