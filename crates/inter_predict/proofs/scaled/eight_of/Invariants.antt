use Rattle.std.proofs.Common.{◌≡◌, ◌<◌, ◌≤◌, ◌+◌, ◌*◌, ℕ, get_or, length, map}
use Rattle.inter_predict.proofs.scaled.eight_of.Given as goal

abbrev pub invariant-loop-k : goal.invariant-loop-k
invariant-loop-k g l = record {
  long : length l.eight ≡ 8;
  value : (k : ℕ) → k < l.k → get_or l.eight k 0 ≡ get_or (map g.P.Sample.value l.samples) (l.first + k * l.step) 0;
  samples : (k : ℕ) → get_or l.eight k 0 ≤ 4095;
}
