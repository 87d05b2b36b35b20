use Rattle.std.proofs.Common.{◌∙◌, refl, sym}
use Rattle.vp9_types.specs.Maps.{rows_of}
use Rattle.planes.specs.Planes.{plane_map}
use Rattle.planes.proofs.RowLemmas.{no_rows}
use Rattle.intra_predict.proofs.SquareLemmas.{part_put}
use Rattle.intra_predict.proofs.square.put_part.Goals as goal

pub loop-i-init : goal.loop-i-init
loop-i-init g c = let a = c.args in
    record { area = refl; map = sym (no_rows (plane_map a.plane.now) a.to.now.first_row a.to.now.first_column a.to.now.columns (rows_of a.stride a.block.now)) }

pub loop-i-preserved : goal.loop-i-preserved
loop-i-preserved g c = let a = c.args in let to = a.to.now in record {
  area = c.put_some.ensures.area ∙ c.loop-i.invariant.area;
  map = part_put (plane_map a.plane.now) (plane_map c.loop-i.plane) (plane_map c.put_some.new.plane) to.first_row to.first_column c.loop-i.i to.rows to.columns a.stride a.block.now
      c.loop-i-test.true c.requires.few c.requires.whole c.loop-i.invariant.map c.put_some.ensures.map;
}
