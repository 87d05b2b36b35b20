use Rattle.std.proofs.Common.{◌≡◌}
use Rattle.vp9_types.specs.Maps.{IsAtMost}
use Rattle.planes.specs.Planes.{plane_map}
use Rattle.picture_tests.proofs.filter.fill.Given as goal

abbrev pub invariant-loop-y : goal.invariant-loop-y
invariant-loop-y g l = record {
  area : l.plane.area ≡ l.initial.plane.area;
  small : IsAtMost l.most (plane_map l.plane);
}
