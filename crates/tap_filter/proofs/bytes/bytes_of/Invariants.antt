use Rattle.std.proofs.Common.{◌≡◌, ◌<◌, ℕ, get_or, length}
use Rattle.tap_filter.proofs.bytes.bytes_of.Given as goal

abbrev pub invariant-loop-k : goal.invariant-loop-k
invariant-loop-k l = record {
  long : length l.bytes ≡ 71;
  value : (k : ℕ) → k < l.k → get_or l.bytes k 0 ≡ get_or l.numbers k 0;
}
