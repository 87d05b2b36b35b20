use Rattle.std.proofs.Common.{◌≡◌, ◌-◌, ◌*◌, ◌∙◌, sym, refl, arith, min}
use Rattle.planes.specs.Planes.{lower_end, plane_map, right_end}
use Rattle.planes.proofs.RowLemmas.{no_rows}
use Rattle.block_rebuild.specs.InterBlocks.{samples_from}
use Rattle.block_rebuild.proofs.Sums.{added, long_part, part_residue, row_added, row_fits, row_inside, square_added}
use Rattle.block_rebuild.proofs.residue.add_at_end.Goals as goal

pub loop-i-init : goal.loop-i-init
loop-i-init g c = let a = c.args in let m = plane_map a.samples.now in record {
  same = refl;
  so_far = sym (no_rows m a.row a.column c.min-columns.result (added c.greatest-most.result c.side_of-side.result (samples_from m a.row a.column) a.values.now));
}

pub add_row-requires-clause-inside : goal.add_row-requires-clause-inside
add_row-requires-clause-inside g c = let a = c.args in let side = c.side_of-side.result in
    let rows : c.min-rows.result ≡ min side (lower_end a.samples.now.area - a.row) = rw (c.lower_end.ensures, c.area-area.ensures.value) at c.min-rows.ensures in
    let columns : c.min-columns.result ≡ min side (right_end a.samples.now.area - a.column) = rw (c.right_end.ensures, c.area-area.ensures.value) at c.min-columns.ensures in
    let fits = row_fits a.values.now a.tx side c.min-rows.result c.min-columns.result c.loop-i.i c.side_of-side.ensures c.requires.long c.loop-i-test.true (omega (arith, rows)) (omega (arith, columns)) in
    row_inside a.samples.now.area c.loop-i.samples.area a.row a.column c.loop-i.i side c.min-rows.result c.min-columns.result _
    c.requires.inside c.loop-i.invariant.same c.loop-i-test.true rows columns (long_part a.values.now (c.loop-i.i * side) c.min-columns.result fits)

pub add_row-requires-clause-residue : goal.add_row-requires-clause-residue
add_row-requires-clause-residue g c = let a = c.args in let side = c.side_of-side.result in
    let rows = rw (c.lower_end.ensures, c.area-area.ensures.value) at c.min-rows.ensures in
    let columns = rw (c.right_end.ensures, c.area-area.ensures.value) at c.min-columns.ensures in
    let fits = row_fits a.values.now a.tx side c.min-rows.result c.min-columns.result c.loop-i.i c.side_of-side.ensures c.requires.long c.loop-i-test.true (omega (arith, rows)) (omega (arith, columns)) in
    part_residue a.values.now (c.loop-i.i * side) c.min-columns.result fits c.requires.small

pub loop-i-preserved : goal.loop-i-preserved
loop-i-preserved g c = let a = c.args in let side = c.side_of-side.result in
    let rows = rw (c.lower_end.ensures, c.area-area.ensures.value) at c.min-rows.ensures in
    let columns = rw (c.right_end.ensures, c.area-area.ensures.value) at c.min-columns.ensures in
    let fits = row_fits a.values.now a.tx side c.min-rows.result c.min-columns.result c.loop-i.i c.side_of-side.ensures c.requires.long c.loop-i-test.true (omega (arith, rows)) (omega (arith, columns)) in record {
      same = c.add_row.ensures.area ∙ c.loop-i.invariant.same;
      so_far = row_added (plane_map a.samples.now) (plane_map c.loop-i.samples) (plane_map c.add_row.new.samples) a.row a.column c.loop-i.i c.min-columns.result side c.greatest-most.result
          a.values.now _ refl fits c.loop-i.invariant.so_far c.add_row.ensures.map;
    }

pub returns-clause-map : goal.returns-clause-map
returns-clause-map g c = let a = c.args in let area = a.samples.now.area in
    let rows = rw (c.lower_end.ensures, c.area-area.ensures.value, c.side_of-side.ensures) at c.min-rows.ensures in
    let columns = rw (c.right_end.ensures, c.area-area.ensures.value, c.side_of-side.ensures) at c.min-columns.ensures in
    let done : c.loop-i.i ≡ c.min-rows.result = omega (arith, c.loop-i-test.false, c.loop-i.auto.i-end) in
    square_added (plane_map a.samples.now) (plane_map c.loop-i.samples) a.row a.column c.loop-i.i c.min-columns.result c.side_of-side.result _ (right_end area) (lower_end area) a.depth c.greatest-most.result a.values.now
    c.loop-i.invariant.so_far c.side_of-side.ensures c.greatest-most.ensures.value (done ∙ rows) columns
