use Rattle.std.proofs.Common.{◌≡◌, ℕ, ◌+◌, ◌∙◌, arith, map}
use Rattle.vp9_types.specs.Maps.{HoldsRows}
use Rattle.vp9_tables.specs.Filters.{taps_of}
use Rattle.planes.specs.Planes.{plane_map}
use Rattle.inter_places.specs.Axes.{fraction, straight}
use Rattle.inter_predict.specs.InterSamples.{along, filtered_both_ways}
use Rattle.inter_predict.specs.Code.{filtered_below}
use Rattle.inter_predict.proofs.Agree.{lines_between, along_small}
use Rattle.inter_predict.proofs.Blocks.{lines_small}
use Rattle.inter_predict.proofs.InPlane.{columns_room, filtered_row, straight_lines, with_part_same}
use Rattle.inter_predict.proofs.in_plane.put_down.Goals as goal

pub fill_lines-requires-clause-held : goal.fill_lines-requires-clause-held
fill_lines-requires-clause-held g c = λ r low. let p = c.args.place.now in
    let between = lines_between p.down p.rows (0 + r) (straight_lines p.down p.rows r c.requires.step c.requires.place.some_rows low) in
    c.requires.held (straight p.down (0 + r)) between.0 between.1

pub put_made-requires-clause-makes : goal.put_made-requires-clause-makes
put_made-requires-clause-makes g c = λ i low. let a = c.args in let p = a.place.now in let value = g.P.Sample.value in
    let xs = c.fill_lines.new.lines in
    let holds : HoldsRows (map value xs) g.row.N (p.rows + 7) (λ r j. along a.by.most a.by.kind p.across (g.S.Samples.map a.view.now p.plane (straight p.down (0 + r))) j) =
    rw (← c.requires.width) at c.fill_lines.ensures in
    record {
      filter = c.filter_of-down.ensures.filter;
      room = columns_room value xs i p.rows g.row.N low c.requires.place.low (omega (arith, c.requires.width, c.requires.place.narrow)) (omega (arith, c.requires.lines, c.fill_lines.auto.lines));
      small = rw c.filter_of-down.ensures.most
          (lines_small a.by.most g.row.N (p.rows + 7) value xs (λ r j. along a.by.most a.by.kind p.across (g.S.Samples.map a.view.now p.plane (straight p.down (0 + r))) j) holds
          (λ r j. along_small a.by.most a.by.kind p.across (g.S.Samples.map a.view.now p.plane (straight p.down (0 + r))) j));
      low = omega (arith, low, c.requires.place.low);
      few = omega (arith, c.requires.width, c.requires.place.narrow);
      sixteens = c.requires.sixteens;
    }

pub returns-clause-map : goal.returns-clause-map
returns-clause-map g c = let a = c.args in let p = a.place.now in let value = g.P.Sample.value in let m = g.S.Samples.map a.view.now p.plane in
    let taps = g.P.FilterSample.stand_for c.filter_of-down.result.taps in
    let is : taps ≡ taps_of a.by.kind (fraction p.down) = rw (c.filter_of-down.ensures.kind, c.filter_of-down.ensures.axis) at c.filter_of-down.ensures.filter.taps in
    let put = rw (c.requires.width, c.filter_of-down.ensures.most) at c.put_made.ensures.map in
    put ∙ with_part_same a.samples.now.area (plane_map a.samples.now) p.row p.column p.rows p.columns _ (filtered_both_ways a.by.most a.by.kind p.down p.across m)
    (λ i j high low. filtered_row value a.by.most a.by.kind p.down p.across m taps c.fill_lines.new.lines p.rows p.columns i j c.requires.step is high low c.fill_lines.ensures)
