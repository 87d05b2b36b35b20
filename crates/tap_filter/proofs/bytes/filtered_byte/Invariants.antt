use Rattle.std.proofs.Common.{◌≡◌, ◌+◌, ◌*◌, get_or}
use Rattle.tap_filter.proofs.ByteLemmas.{summed}
use Rattle.tap_filter.proofs.bytes.filtered_byte.Given as goal

abbrev pub invariant-loop-k : goal.invariant-loop-k
invariant-loop-k l = l.sum ≡ summed l.taps (λ k. get_or l.samples (l.place + k * l.step) 0) l.k
