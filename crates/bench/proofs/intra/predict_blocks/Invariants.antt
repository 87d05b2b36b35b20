use Rattle.std.proofs.Common.{◌≡◌, ◌<◌}
use Rattle.vp9_types.specs.Maps.{IsAtMost}
use Rattle.planes.specs.Planes.{plane_map, whole_area}
use Rattle.bench.proofs.intra.predict_blocks.Given as goal

abbrev pub invariant-predicting : goal.invariant-predicting
invariant-predicting g l = record {
  high : l.row < 1080;
  wide : l.column < 1920;
  whole : l.plane.area ≡ whole_area 1080 1920;
  small : IsAtMost 255 (plane_map l.plane);
}
