use Rattle.std.proofs.Common.{◌≡◌, ◌-◌, None}
use Rattle.mv_prediction.specs.Candidates.{own_at}
use Rattle.mv_prediction.specs.Code.{with_places, IsSmallFound}
use Rattle.mv_prediction.proofs.suggestions.with_other_six.Given as goal

abbrev pub invariant-loop-k : goal.invariant-loop-k
invariant-loop-k g l = record {
  is : l.all ≡ with_places (own_at (g.N.Neighbours.blocks l.earlier) l.search l.fn.reference None) l.initial.all 2 (l.k - 2);
  small : IsSmallFound l.all;
}
