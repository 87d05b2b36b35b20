use Rattle.std.proofs.Common.{◌≡◌, ◌<◌, ◌≤◌, ◌*◌, ℕ, get_or}
use Rattle.std.specs.Prelude.{pos, slice_index_or}
use Rattle.intra_predict.specs.Residue.{with_residue}
use Rattle.intra_predict.proofs.put.add_clipped.Given as goal

abbrev pub invariant-loop-i : goal.invariant-loop-i
invariant-loop-i l = record {
  below : (k : ℕ) → k < l.i * 16 →
      get_or l.block k 0 ≡ with_residue l.most (get_or l.initial.block k 0) (slice_index_or l.residue k (pos 0));
  rest : (k : ℕ) → l.i * 16 ≤ k → get_or l.block k 0 ≡ get_or l.initial.block k 0;
}
