use Rattle.std.proofs.Common.{◌≡◌, map}
use Rattle.vp9_types.specs.Maps.{IsAtMost}
use Rattle.vp9_types.specs.Sizes.{greatest}
use Rattle.planes.specs.Planes.{plane_map}
use Rattle.column_strips.proofs.RowSteps.{HasStrips}
use Rattle.column_strips.proofs.lent.LentStripsStrips.put_row.Given as goal

abbrev pub invariant-loop-k : goal.invariant-loop-k
invariant-loop-k g l = record {
  area : l.to.area ≡ l.initial.to.area;
  range : IsAtMost (greatest l.shape.depth) (plane_map l.to);
  so_far : HasStrips l.shape l.plane l.sr (g.F.RawFrame.raw l.plane) (map (λ b. b.now) l.self.strips.now) l.k (plane_map l.initial.to) (plane_map l.to);
}
