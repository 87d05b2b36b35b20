use Rattle.std.proofs.Common.{◌≡◌, ◌<◌, ℕ, get_or, length, map}
use Rattle.intra_predict.proofs.kept.widen_lanes.Given as goal

abbrev pub invariant-loop-k : goal.invariant-loop-k
invariant-loop-k g l = record {
  long : length l.line ≡ 32;
  read : (k : ℕ) → k < l.k → get_or l.line k 0 ≡ get_or (map g.P.Sample.value l.from) k 0;
}
