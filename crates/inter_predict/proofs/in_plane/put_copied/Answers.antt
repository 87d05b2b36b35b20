use Rattle.std.proofs.Common.{◌≡◌, ◌+◌, ◌∙◌, arith, map}
use Rattle.planes.specs.Planes.{plane_map}
use Rattle.inter_places.specs.Axes.{straight}
use Rattle.inter_predict.specs.InterSamples.{filtered_both_ways}
use Rattle.inter_predict.specs.Code.{IsCopied}
use Rattle.inter_predict.proofs.Agree.{lines_between, whole_line}
use Rattle.inter_predict.proofs.InPlane.{copied_row, copy_room, with_part_same}
use Rattle.inter_predict.proofs.in_plane.put_copied.Goals as goal

pub piece_of-requires-clause-held : goal.piece_of-requires-clause-held
piece_of-requires-clause-held g c = λ r low. let p = c.args.place.now in
    let between = lines_between p.down p.rows (3 + r) (whole_line p.down p.rows r c.requires.step low) in
    c.requires.held (straight p.down (3 + r)) between.0 between.1

pub put_made-requires-clause-makes : goal.put_made-requires-clause-makes
put_made-requires-clause-makes g c = λ i low. let p = c.args.place.now in let rows = c.in-Some.ensures.rows in
    record {
      room = copy_room g.P.Sample.value c.in-Some.rows.now p.across c.in-Some.stride c.straight.result g.row.N i c.if-not-is_copied.ensures c.straight.ensures.value (rows.room i low);
      low = omega (arith, low, c.requires.place.low);
      apart = rows.near;
      near = omega (arith, c.straight.ensures.inside, c.requires.place.across.low);
      few = omega (arith, c.requires.width, c.requires.place.narrow);
    }

pub returns-clause-map : goal.returns-clause-map
returns-clause-map g c = let a = c.args in let p = a.place.now in let m = g.S.Samples.map a.view.now p.plane in
    let copied : IsCopied p.across p.columns = rw c.requires.width at c.if-not-is_copied.ensures in
    let put = rw c.requires.width at c.put_made.ensures.map in
    put ∙ with_part_same a.samples.now.area (plane_map a.samples.now) p.row p.column p.rows p.columns _ (filtered_both_ways a.by.most a.by.kind p.down p.across m)
    (λ i j high low. copied_row a.by.most a.by.kind p.down p.across m (map g.P.Sample.value c.in-Some.rows.now) c.in-Some.stride c.straight.result p.columns i j
    copied c.requires.step c.requires.phase c.straight.ensures.value low
    (λ k inside. c.in-Some.ensures.samples i k high inside) (c.requires.samples (straight p.down (3 + i)) (straight p.across (j + 3))))
