use Rattle.std.proofs.Common.{◌≡◌, ◌<◌, ◌+◌, ◌*◌, ℕ, get_or, length}
use Rattle.tap_filter.specs.Filter.{filtered}
use Rattle.tap_filter.proofs.bytes.filtered_bytes.Given as goal

abbrev pub invariant-loop-j : goal.invariant-loop-j
invariant-loop-j l = record {
  long : length l.values ≡ 16;
  value : (j : ℕ) → j < l.j → get_or l.values j 0 ≡ filtered 255 l.taps (λ k. get_or l.samples (l.place + k * l.step + j) 0);
}
