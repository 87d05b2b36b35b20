use Rattle.std.proofs.Common.{◌≡◌, ◌<◌, ℕ, get_or, length, map}
use Rattle.intra_predict.proofs.kept.widen_twice.Given as goal

abbrev pub invariant-loop-k : goal.invariant-loop-k
invariant-loop-k g l = record {
  long : length l.numbers ≡ 64;
  read : (k : ℕ) → k < l.k → get_or l.numbers k 0 ≡ get_or (map g.P.Sample.value l.from) k 0;
}
