use Rattle.std.proofs.Common.{◌≡◌, ◌≤◌, length, map}
use Rattle.std.specs.Vec.{vec_capacity}
use Rattle.job_rows.specs.LentRows.{AreStrips, OfFrame}
use Rattle.job_rows.proofs.filters.strips_of.Given as goal

abbrev pub invariant-loop-k : goal.invariant-loop-k
invariant-loop-k g l = record {
  many : length l.strips.items ≡ l.k;
  room : l.columns ≤ vec_capacity l.strips;
  are : OfFrame g.B.DecodeRun.format g.B.DecodeRun.film l.frame (λ c. AreStrips c l.k l.row (map (λ b. b.now) l.strips.items));
}
