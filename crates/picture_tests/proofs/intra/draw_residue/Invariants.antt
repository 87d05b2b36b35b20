use Rattle.std.proofs.Common.{◌<◌, ◌^◌, ℕ}
use Rattle.std.specs.Prelude.{pos, slice_index_or, unsigned_abs}
use Rattle.picture_tests.proofs.intra.draw_residue.Given as goal

abbrev pub invariant-loop-change : goal.invariant-loop-change
invariant-loop-change l = (k : ℕ) → k < l.change-index → unsigned_abs (slice_index_or l.residue k (pos 0)) < 2 ^ 24
