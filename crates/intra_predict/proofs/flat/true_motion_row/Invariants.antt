use Rattle.std.proofs.Common.{◌≡◌, ◌<◌, ◌+◌, ◌-◌, ℕ, min, get_or}
use Rattle.intra_predict.proofs.flat.true_motion_row.Given as goal

abbrev pub invariant-loop-j : goal.invariant-loop-j
invariant-loop-j g l = record {
  row : (k : ℕ) → k < l.j → get_or l.block (l.at + k) 0 ≡ min l.most (l.left + get_or l.above k 0 - l.corner);
  before : (k : ℕ) → k < l.at → get_or l.block k 0 ≡ get_or l.initial.block k 0;
}
