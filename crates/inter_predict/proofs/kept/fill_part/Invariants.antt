use Rattle.std.proofs.Common.{◌≡◌, ◌<◌, ◌≤◌, ℕ, get_or, map}
use Rattle.inter_predict.proofs.kept.fill_part.Given as goal

abbrev pub invariant-loop-k : goal.invariant-loop-k
invariant-loop-k g l = record {
  put : (k : ℕ) → l.from ≤ k → k < l.k → get_or (map g.P.Sample.value l.out) k 0 ≡ g.P.Sample.value l.sample;
  before : (k : ℕ) → k < l.from → get_or (map g.P.Sample.value l.out) k 0 ≡ get_or (map g.P.Sample.value l.initial.out) k 0;
  after : (k : ℕ) → l.k ≤ k → get_or (map g.P.Sample.value l.out) k 0 ≡ get_or (map g.P.Sample.value l.initial.out) k 0;
}
