use Rattle.std.proofs.Common.{◌≡◌}
use Rattle.vp9_types.specs.Maps.{rows_of, with_block}
use Rattle.planes.specs.Planes.{plane_map}
use Rattle.intra_predict.proofs.square.put_inside.Given as goal

abbrev pub invariant-loop-i : goal.invariant-loop-i
invariant-loop-i g l = record {
  area : l.plane.area ≡ l.initial.plane.area;
  map : plane_map l.plane ≡ with_block (plane_map l.initial.plane) l.row l.column l.i g.row.N (rows_of g.row.N l.block);
}
