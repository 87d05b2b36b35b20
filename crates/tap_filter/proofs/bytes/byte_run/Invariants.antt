use Rattle.std.proofs.Common.{◌≡◌, ◌<◌, ◌≤◌, ◌+◌, ◌*◌, ℕ, get_or}
use Rattle.tap_filter.specs.Filter.{filtered}
use Rattle.tap_filter.proofs.bytes.byte_run.Given as goal

abbrev pub invariant-loop-b : goal.invariant-loop-b
invariant-loop-b l = record {
  value : (j : ℕ) → j < 16 * l.b → get_or l.out j 0 ≡ filtered 255 l.taps (λ k. get_or l.samples (l.from + k * l.step + j) 0);
  after : (j : ℕ) → 16 * l.b ≤ j → get_or l.out j 0 ≡ get_or l.initial.out j 0;
}
