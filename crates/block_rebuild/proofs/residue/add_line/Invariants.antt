use Rattle.std.proofs.Common.{◌≡◌, ◌<◌, ◌≤◌, ℕ, get_or, map}
use Rattle.std.specs.Prelude.{pos, slice_index_or}
use Rattle.intra_predict.specs.Residue.{with_residue}
use Rattle.block_rebuild.proofs.residue.add_line.Given as goal

abbrev pub invariant-loop-k : goal.invariant-loop-k
invariant-loop-k g l = record {
  below : (k : ℕ) → k < l.k → get_or (map g.P.Sample.value l.line) k 0 ≡ with_residue l.most (get_or (map g.P.Sample.value l.initial.line) k 0) (slice_index_or l.residue k (pos 0));
  rest : (k : ℕ) → l.k ≤ k → get_or (map g.P.Sample.value l.line) k 0 ≡ get_or (map g.P.Sample.value l.initial.line) k 0;
}
