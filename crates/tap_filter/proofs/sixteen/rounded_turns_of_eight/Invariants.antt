use Rattle.std.proofs.Common.{◌≡◌, ◌<◌, ◌+◌, ◌*◌, ℕ, get_or, length}
use Rattle.tap_filter.specs.Filter.{rounded}
use Rattle.tap_filter.specs.Code.{at}
use Rattle.tap_filter.proofs.sixteen.rounded_turns_of_eight.Given as goal

abbrev pub invariant-loop-j : goal.invariant-loop-j
invariant-loop-j l = record {
  long : length l.values ≡ 8;
  even : (j : ℕ) → j < l.j → get_or l.values (2 * j) 0 ≡ rounded l.most (at l.even j);
  odd : (j : ℕ) → j < l.j → get_or l.values (2 * j + 1) 0 ≡ rounded l.most (at l.odd j);
}
