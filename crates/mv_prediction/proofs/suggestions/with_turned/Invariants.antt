use Rattle.std.proofs.Common.{◌≡◌}
use Rattle.mv_prediction.specs.Candidates.{others_at}
use Rattle.mv_prediction.specs.Code.{with_places, IsSmallFound}
use Rattle.mv_prediction.proofs.suggestions.with_turned.Given as goal

abbrev pub invariant-loop-k : goal.invariant-loop-k
invariant-loop-k g l = record {
  is : l.all ≡ with_places (others_at (g.N.Neighbours.blocks l.earlier) l.search l.wanted) l.initial.all 0 l.k;
  small : IsSmallFound l.all;
}
