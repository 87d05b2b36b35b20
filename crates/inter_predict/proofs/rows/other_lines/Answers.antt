use Rattle.std.proofs.Common.{◌+◌, ◌∙◌, ℕ, get_or, map}
use Rattle.inter_places.specs.Axes.{straight}
use Rattle.inter_predict.specs.InterSamples.{along}
use Rattle.inter_predict.proofs.Agree.{along_inside}
use Rattle.inter_predict.proofs.Blocks.{rows_more}
use Rattle.inter_predict.proofs.rows.other_lines.Goals as goal

pub loop-r-preserved : goal.loop-r-preserved
loop-r-preserved g c = let a = c.args in let p = a.place.now in
    let row = rw (c.filter_of-across.ensures.axis, c.filter_of-across.ensures.kind, c.filter_of-across.ensures.most) at c.put_line.ensures.row in
    rows_more (λ r j. along a.by.most a.by.kind p.across (g.S.Samples.map a.view.now p.plane (straight p.down (a.first + r))) j) p.columns c.loop-r.r (map g.P.Sample.value c.loop-r.lines) (map g.P.Sample.value c.put_line.new.lines)
    c.loop-r.invariant
    (λ j low. row j low ∙ along_inside a.by.most a.by.kind p.across (λ (k : ℕ). get_or (map g.P.Sample.value c.read_row-row.result.now) k 0)
    (λ (k : ℕ). g.S.Samples.map a.view.now p.plane (straight p.down (a.first + c.loop-r.r)) k) j c.requires.place.across.some
    (λ k inside. c.read_row-row.ensures.row k inside))
    c.put_line.ensures.before
