use Rattle.std.proofs.Common.{◌≡◌, ◌<◌, ◌+◌, ℕ, get_or}
use Rattle.intra_predict.specs.PredictedModes.{mean2_at}
use Rattle.intra_predict.proofs.lines.average.Given as goal

abbrev pub invariant-loop-k : goal.invariant-loop-k
invariant-loop-k l = record {
  means : (k : ℕ) → k < l.k → get_or l.line (l.at + k) 0 ≡ mean2_at l.edge (l.from + k);
  before : (k : ℕ) → k < l.at → get_or l.line k 0 ≡ get_or l.initial.line k 0;
}
