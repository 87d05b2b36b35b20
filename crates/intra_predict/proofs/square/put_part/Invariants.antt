use Rattle.std.proofs.Common.{◌≡◌}
use Rattle.vp9_types.specs.Maps.{rows_of, with_block}
use Rattle.planes.specs.Planes.{plane_map}
use Rattle.intra_predict.proofs.square.put_part.Given as goal

abbrev pub invariant-loop-i : goal.invariant-loop-i
invariant-loop-i g l = record {
  area : l.plane.area ≡ l.initial.plane.area;
  map : plane_map l.plane ≡ with_block (plane_map l.initial.plane) l.to.first_row l.to.first_column l.i l.to.columns (rows_of l.stride l.block);
}
