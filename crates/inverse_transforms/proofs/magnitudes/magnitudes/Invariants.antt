use Rattle.std.proofs.Common.{◌≡◌, ℕ, ◌<◌, length, slice_index_or, unsigned_abs}
use Rattle.inverse_transforms.specs.Flow.{at}
use Rattle.inverse_transforms.proofs.magnitudes.magnitudes.Given as goal

abbrev pub invariant-loop-j : goal.invariant-loop-j
invariant-loop-j l = record {
  size : length l.sizes ≡ 8;
  made : (k : ℕ) → k < l.j → slice_index_or l.sizes k 0 ≡ unsigned_abs (at l.row k);
}
