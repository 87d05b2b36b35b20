use Rattle.std.proofs.Common.{◌≡◌, ◌<◌, ◌≤◌, ◌-◌, ℕ, get_or}
use Rattle.intra_predict.proofs.lines.reverse_into.Given as goal

abbrev pub invariant-loop-k : goal.invariant-loop-k
invariant-loop-k l = record {
  reversed : (k : ℕ) → k < l.k → get_or l.line k 0 ≡ get_or l.from (l.n - 1 - k) 0;
  after : (k : ℕ) → l.n ≤ k → get_or l.line k 0 ≡ get_or l.initial.line k 0;
}
