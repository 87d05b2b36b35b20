use Rattle.std.proofs.Common.{◌≡◌, ◌<◌, ◌≤◌, ℕ, get_or, map}
use Rattle.inter_predict.specs.InterSamples.{average}
use Rattle.inter_predict.proofs.means.average.Given as goal

abbrev pub invariant-loop-k : goal.invariant-loop-k
invariant-loop-k g l = record {
  value : (k : ℕ) → k < l.k → get_or (map g.P.Sample.value l.block) k 0
      ≡ average (get_or (map g.P.Sample.value l.initial.block) k 0) (get_or (map g.P.Sample.value l.other) k 0);
  after : (k : ℕ) → l.k ≤ k → get_or (map g.P.Sample.value l.block) k 0 ≡ get_or (map g.P.Sample.value l.initial.block) k 0;
}
