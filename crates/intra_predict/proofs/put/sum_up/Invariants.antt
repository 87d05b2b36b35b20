use Rattle.std.proofs.Common.{◌≡◌, ◌<◌, ℕ, get_or}
use Rattle.std.specs.Prelude.{pos, slice_index_or}
use Rattle.intra_predict.specs.Residue.{with_residue}
use Rattle.intra_predict.proofs.put.sum_up.Given as goal

abbrev pub invariant-loop-k : goal.invariant-loop-k
invariant-loop-k l = (k : ℕ) → k < l.k →
    get_or l.sums k 0 ≡ with_residue l.most (get_or l.samples k 0) (slice_index_or l.residue k (pos 0))
