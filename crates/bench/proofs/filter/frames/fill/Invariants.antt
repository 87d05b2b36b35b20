use Rattle.std.proofs.Common.{◌≡◌}
use Rattle.vp9_types.specs.Maps.{IsAtMost}
use Rattle.planes.specs.Planes.{plane_map}
use Rattle.bench.proofs.filter.frames.fill.Given as goal

abbrev pub invariant-loop-y : goal.invariant-loop-y
invariant-loop-y g l = record {
  area : l.plane.area ≡ l.initial.plane.area;
  small : IsAtMost 255 (plane_map l.plane);
}
