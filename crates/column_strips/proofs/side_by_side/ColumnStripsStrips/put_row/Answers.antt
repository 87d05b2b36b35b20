use Rattle.std.proofs.Common.{◌≡◌, ◌∙◌, refl, sym, ap, arith}
use Rattle.vp9_types.specs.Sizes.{greatest}
use Rattle.planes.specs.Planes.{plane_map}
use Rattle.planes.specs.Pictures.{plane_of}
use Rattle.column_strips.proofs.RowSteps.{all_put, no_strips, one_more, own_ends, part_at, range_of_one, room_at, rows_of_one}
use Rattle.column_strips.proofs.side_by_side.ColumnStripsStrips.put_row.Goals as goal

pub loop-k-init : goal.loop-k-init
loop-k-init g c = let a = c.args in record {
  area = refl;
  range = c.requires.range;
  so_far = no_strips a.shape.now a.plane a.sr (g.F.RawFrame.raw a.plane) a.self.now.strips.now (plane_map a.to.now);
}

pub put_strip-requires-clause-there : goal.put_strip-requires-clause-there
put_strip-requires-clause-there g c = let a = c.args in
    let plane : c.plane.result.now ≡ plane_of c.index-self-k.result a.plane = c.plane.ensures ∙ ap (λ f. plane_of f a.plane) (sym c.index-self-k.is) in
    let own = rows_of_one a.shape.now g.F.RawFrame.raw a.plane a.sr a.self.now.strips.now c.loop-k.k c.index-self-k.result c.plane.result.now c.requires.held c.loop-k-test.true c.index-self-k.is plane in
    omega (arith, own.top, c.first_own-first_row.ensures)

pub put_strip-requires-clause-above : goal.put_strip-requires-clause-above
put_strip-requires-clause-above g c = let a = c.args in
    let plane : c.plane.result.now ≡ plane_of c.index-self-k.result a.plane = c.plane.ensures ∙ ap (λ f. plane_of f a.plane) (sym c.index-self-k.is) in
    let own = rows_of_one a.shape.now g.F.RawFrame.raw a.plane a.sr a.self.now.strips.now c.loop-k.k c.index-self-k.result c.plane.result.now c.requires.held c.loop-k-test.true c.index-self-k.is plane in
    omega (arith, own.bottom, own_ends a.shape.now a.plane a.sr, c.first_own-first_row.ensures)

pub put_strip-requires-clause-room : goal.put_strip-requires-clause-room
put_strip-requires-clause-room g c = let a = c.args in
    let plane : c.plane.result.now ≡ plane_of c.index-self-k.result a.plane = c.plane.ensures ∙ ap (λ f. plane_of f a.plane) (sym c.index-self-k.is) in
    let own = rows_of_one a.shape.now g.F.RawFrame.raw a.plane a.sr a.self.now.strips.now c.loop-k.k c.index-self-k.result c.plane.result.now c.requires.held c.loop-k-test.true c.index-self-k.is plane in
    room_at a.shape.now a.plane a.sr c.first_own-first_row.result c.plane.result.now.area a.to.now.area c.loop-k.to.area c.requires.held.row own c.requires.room c.loop-k.invariant.area c.first_own-first_row.ensures

pub loop-k-preserved : goal.loop-k-preserved
loop-k-preserved g c = let a = c.args in
    let so = c.loop-k.invariant in
    let plane : c.plane.result.now ≡ plane_of c.index-self-k.result a.plane = c.plane.ensures ∙ ap (λ f. plane_of f a.plane) (sym c.index-self-k.is) in
    record {
      area = c.put_strip.ensures.area ∙ so.area;
      range = c.put_strip.ensures.range (greatest a.shape.now.depth)
          (range_of_one a.shape.now g.F.RawFrame.raw a.plane a.sr a.self.now.strips.now c.loop-k.k c.index-self-k.result c.plane.result.now c.requires.held c.loop-k-test.true c.index-self-k.is plane) so.range;
      so_far = one_more a.shape.now a.plane a.sr g.F.RawFrame.raw a.self.now.strips.now c.loop-k.k c.index-self-k.result (plane_map a.to.now) (plane_map c.loop-k.to) (plane_map c.put_strip.new.to)
          c.requires.held c.loop-k-test.true c.index-self-k.is
          (part_at a.shape.now a.plane a.sr c.first_own-first_row.result c.index-self-k.result c.plane.result.now (plane_map c.loop-k.to) (plane_map c.put_strip.new.to) c.first_own-first_row.ensures plane c.put_strip.ensures.part) so.so_far;
    }

pub returns : goal.returns
returns g c = let a = c.args in let so = c.loop-k.invariant in record {
  area = so.area;
  rows = all_put a.shape.now a.plane a.sr g.F.RawFrame.raw a.self.now.strips.now c.loop-k.k a.to.now c.loop-k.to c.requires.held c.loop-k-test.false c.requires.room so.area so.so_far;
  range = so.range;
}
