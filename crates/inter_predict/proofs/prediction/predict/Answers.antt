use Rattle.std.proofs.Common.{◌≡◌, ℕ, ◌+◌, ◌*◌, ◌/◌, ◌-◌, ◌<◌, ◌∙◌, ap, arith, refl, get_or, map, take}
use Rattle.inter_places.specs.Axes.{straight, offset}
use Rattle.inter_predict.specs.InterSamples.{along}
use Rattle.inter_predict.proofs.Agree.{lines_between, whole_line, line_among, along_small, whole_predicted, both_passes}
use Rattle.inter_predict.proofs.Blocks.{lines_small, place_below}
use Rattle.inter_predict.proofs.Values.{taken_is}
use Rattle.inter_predict.proofs.prediction.predict.Goals as goal

pub fill_lines-requires-clause-held : goal.fill_lines-requires-clause-held
fill_lines-requires-clause-held g c = λ r low. let p = c.args.place.now in
    let step = c.if-is_whole.ensures.step in
    let between = lines_between p.down p.rows (3 + r) (whole_line p.down p.rows r step low) in
    c.requires.held (straight p.down (3 + r)) between.0 between.1

pub fill_lines-requires-else-is_whole-clause-held : goal.fill_lines-requires-else-is_whole-clause-held
fill_lines-requires-else-is_whole-clause-held g c = λ r low. let p = c.args.place.now in
    let count : r < offset p.down (p.rows - 1) / 16 + 8 = rw c.offset_of.ensures.value at low in
    let between = lines_between p.down p.rows (0 + r) (omega (arith, count)) in
    c.requires.held (straight p.down (0 + r)) between.0 between.1

pub filter_down-requires-clause-samples : goal.filter_down-requires-clause-samples
filter_down-requires-clause-samples g c = let a = c.args in let p = a.place.now in
    rw c.filter_of-down.ensures.most
    (lines_small a.most p.columns (c.offset_of.result / 16 + 8) g.P.Sample.value c.fill_lines-else-is_whole.new.lines
    (λ r j. along a.most a.kind p.across (g.S.Samples.map a.view.now p.plane (straight p.down (0 + r))) j) c.fill_lines-else-is_whole.ensures
    (λ r j. along_small a.most a.kind p.across (g.S.Samples.map a.view.now p.plane (straight p.down (0 + r))) j))

pub returns-then-is_whole : goal.returns-then-is_whole
returns-then-is_whole g c = λ i j high low. let a = c.args in let p = a.place.now in
    c.fill_lines.ensures i j high low
    ∙ whole_predicted a.most a.kind p.down p.across (g.S.Samples.map a.view.now p.plane) i j c.if-is_whole.ensures.step c.if-is_whole.ensures.phase

pub returns-else-is_whole : goal.returns-else-is_whole
returns-else-is_whole g c = λ i j high low. let a = c.args in let p = a.place.now in
    let n = p.columns in
    let m = g.S.Samples.map a.view.now p.plane in
    let count = c.offset_of.result / 16 + 8 in
    let xs = c.fill_lines-else-is_whole.new.lines in
    let down = rw (c.filter_of-down.ensures.most, c.filter_of-down.ensures.kind, c.filter_of-down.ensures.axis) at (c.filter_down.ensures i j high low) in
    down ∙ both_passes a.most a.kind p.down p.across m i j (λ (k : ℕ). get_or (map g.P.Sample.value (take (count * n) xs)) ((offset p.down i / 16 + k) * n + j) 0)
    (λ k few.
    let among : offset p.down i / 16 + k < c.offset_of.result / 16 + 8 = rw c.offset_of.ensures.value (line_among p.down p.rows i k high few) in
    taken_is g.P.Sample.value xs (count * n) ((offset p.down i / 16 + k) * n + j) ((offset p.down i / 16 + k) * n + j) refl (place_below n count (offset p.down i / 16 + k) j among low)
    ∙ c.fill_lines-else-is_whole.ensures (offset p.down i / 16 + k) j among low
    ∙ ap (λ (r : ℕ). along a.most a.kind p.across (m (straight p.down r)) j) (from_zero (offset p.down i / 16 + k)))
  where
    from_zero : (n : ℕ) → 0 + n ≡ n
    from_zero n = omega arith
