use Rattle.std.proofs.Common.{◌≡◌}
use Rattle.vp9_types.specs.Maps.{IsAtMost}
use Rattle.planes.specs.Planes.{plane_map, whole_area}
use Rattle.picture_tests.proofs.intra.planes.Given as goal

abbrev pub invariant-loop-step : goal.invariant-loop-step
invariant-loop-step g l = record {
  whole : l.plane.area ≡ whole_area 24 40;
  small : IsAtMost 1023 (plane_map l.plane);
}
