use Rattle.std.proofs.Common.{◌≡◌, ◌<◌, ◌≤◌, ℕ, get_or}
use Rattle.intra_predict.proofs.lines.fill_from.Given as goal

abbrev pub invariant-loop-k : goal.invariant-loop-k
invariant-loop-k l = record {
  filled : (k : ℕ) → l.from ≤ k → k < l.k → get_or l.line k 0 ≡ l.value;
  before : (k : ℕ) → k < l.from → get_or l.line k 0 ≡ get_or l.initial.line k 0;
}
