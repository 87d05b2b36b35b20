use Rattle.std.proofs.Common.{◌≡◌, ◌<◌, ℕ, get_or, length, map}
use Rattle.intra_predict.proofs.kept.narrow_lanes.Given as goal

abbrev pub invariant-loop-j : goal.invariant-loop-j
invariant-loop-j g l = record {
  long : length l.line ≡ 32;
  put : (k : ℕ) → k < l.j → get_or l.line k 0 ≡ get_or l.from k 0;
}

abbrev pub invariant-loop-k : goal.invariant-loop-k
invariant-loop-k g l = (k : ℕ) → k < l.k → get_or (map g.P.Sample.value l.to) k 0 ≡ get_or l.from k 0
