use Rattle.std.proofs.Common.{◌≡◌, ◌<◌, ℕ, get_or, length}
use Rattle.tap_filter.specs.Filter.{rounded}
use Rattle.tap_filter.specs.Code.{at}
use Rattle.tap_filter.proofs.sixteen.saturated.Given as goal

abbrev pub invariant-loop-j : goal.invariant-loop-j
invariant-loop-j l = record {
  long : length l.values ≡ 8;
  value : (j : ℕ) → j < l.j → get_or l.values j 0 ≡ rounded 65535 (at l.sums j);
}
