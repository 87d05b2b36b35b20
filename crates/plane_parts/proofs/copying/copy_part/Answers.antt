use Rattle.std.proofs.Common.{◌∙◌, refl, sym, subst, arith}
use Rattle.planes.specs.declared.area.Area.{Area}
use Rattle.planes.specs.Planes.{HasRow, plane_map}
use Rattle.plane_parts.proofs.PartLemmas.{all_copied, none_copied, part_small, row_copied, row_there}
use Rattle.plane_parts.proofs.copying.copy_part.Goals as goal

pub loop-row-init : goal.loop-row-init
loop-row-init g c = let a = c.args in record {
  least = omega arith;
  most = omega arith;
  area = refl;
  so_far = none_copied a.part.now (plane_map a.from.now) (plane_map a.to.now);
}

pub copy_row-requires-clause-there : goal.copy_row-requires-clause-there
copy_row-requires-clause-there g c = let a = c.args in
    row_there a.part.now a.from.now.area c.loop-row.row c.requires.there c.loop-row.invariant.least (omega (arith, c.loop-row-test.true, c.lower_end-row-end.ensures))

pub copy_row-requires-clause-room : goal.copy_row-requires-clause-room
copy_row-requires-clause-room g c = let a = c.args in
    subst (λ (to : Area). HasRow to c.loop-row.row a.part.now.first_column a.part.now.columns) (sym c.loop-row.invariant.area)
    (row_there a.part.now a.to.now.area c.loop-row.row c.requires.room c.loop-row.invariant.least (omega (arith, c.loop-row-test.true, c.lower_end-row-end.ensures)))

pub loop-row-preserved : goal.loop-row-preserved
loop-row-preserved g c = let a = c.args in let so = c.loop-row.invariant in record {
  least = omega (arith, so.least);
  most = omega (arith, c.loop-row-test.true, c.lower_end-row-end.ensures);
  area = c.copy_row.ensures.area ∙ so.area;
  so_far = row_copied a.part.now c.loop-row.row (plane_map a.from.now) (plane_map a.to.now) (plane_map c.loop-row.to) (plane_map c.copy_row.new.to) so.least so.so_far c.copy_row.ensures.map;
}

pub returns-clause-part : goal.returns-clause-part
returns-clause-part g c = let a = c.args in let so = c.loop-row.invariant in
    all_copied a.part.now c.loop-row.row (plane_map a.from.now) (plane_map a.to.now) (plane_map c.loop-row.to) so.least
    (omega (arith, so.most, c.loop-row-test.false, c.lower_end-row-end.ensures)) so.so_far

pub returns-clause-range : goal.returns-clause-range
returns-clause-range g c = let a = c.args in
    part_small a.part.now (plane_map a.from.now) (plane_map a.to.now) (plane_map c.loop-row.to) (returns-clause-part g c)
