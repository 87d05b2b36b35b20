use Rattle.std.proofs.Common.{◌+◌, ◌*◌, ◌∙◌, arith, refl, sym}
use Rattle.std.specs.Prelude.{slice_index}
use Rattle.vp9_types.specs.Maps.{rows_of, with_block}
use Rattle.planes.specs.Planes.{plane_map}
use Rattle.planes.proofs.RowLemmas.{no_rows}
use Rattle.intra_predict.proofs.SquareLemmas.{more_rows, part, part_fits, part_long, row_ends, row_is_in}
use Rattle.intra_predict.proofs.square.put_inside.Goals as goal

pub loop-i-init : goal.loop-i-init
loop-i-init g c = let a = c.args in
    record { area = refl; map = sym (no_rows (plane_map a.plane.now) a.row a.column g.row.N (rows_of g.row.N a.block.now)) }

pub put_row-requires-clause-inside : goal.put_row-requires-clause-inside
put_row-requires-clause-inside g c = let a = c.args in
    row_is_in a.plane.now.area c.loop-i.plane.area a.row a.column c.loop-i.i a.rows g.row.N c.requires.inside c.loop-i.invariant.area c.loop-i-test.true c.requires.below c.requires.right

pub put_row-requires-clause-enough : goal.put_row-requires-clause-enough
put_row-requires-clause-enough g c = let a = c.args in
    part_long a.block.now (c.loop-i.i * g.row.N) g.row.N (omega (arith, row_ends c.loop-i.i a.rows g.row.N c.loop-i-test.true, c.requires.whole))

pub put_row-requires-clause-fits : goal.put_row-requires-clause-fits
put_row-requires-clause-fits g c = let a = c.args in
    part_fits a.block.now _ c.loop-i.i a.rows g.row.N g.row.N c.loop-i-test.true (omega arith) c.requires.fits

pub loop-i-preserved : goal.loop-i-preserved
loop-i-preserved g c = let a = c.args in record {
  area = c.put_row.ensures.area ∙ c.loop-i.invariant.area;
  map = ◌∙◌ {b = with_block (plane_map c.loop-i.plane) (a.row + c.loop-i.i) a.column 1 g.row.N (λ _ j. slice_index (part a.block.now (c.loop-i.i * g.row.N) g.row.N) j)} c.put_row.ensures.map (more_rows (plane_map a.plane.now) (plane_map c.loop-i.plane) a.row a.column c.loop-i.i g.row.N g.row.N a.block.now (omega arith) c.loop-i.invariant.map);
}
