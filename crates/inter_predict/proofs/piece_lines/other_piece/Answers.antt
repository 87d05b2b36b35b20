use Rattle.std.proofs.Common.{◌∙◌, ℕ, get_or, map}
use Rattle.inter_predict.specs.Code.{strided}
use Rattle.inter_predict.specs.InterSamples.{along}
use Rattle.inter_predict.proofs.Agree.{along_inside}
use Rattle.inter_predict.proofs.Blocks.{rows_more}
use Rattle.inter_predict.proofs.piece_lines.other_piece.Goals as goal

pub loop-r-preserved : goal.loop-r-preserved
loop-r-preserved g c = let a = c.args in let p = a.place.now in let f = g.P.Sample.value in
    let row = rw (c.filter_of-across.ensures.axis, c.filter_of-across.ensures.kind, c.filter_of-across.ensures.most) at c.put_line.ensures.row in
    rows_more (λ r j. along a.by.most a.by.kind p.across (strided a.stride (map f a.samples.now) r) j) p.columns c.loop-r.r (map f c.loop-r.lines) (map f c.put_line.new.lines)
    c.loop-r.invariant
    (λ j low. row j low ∙ along_inside a.by.most a.by.kind p.across (λ (k : ℕ). get_or (map f c.row_in-row.result.now) k 0)
    (strided a.stride (map f a.samples.now) c.loop-r.r) j c.requires.place.across.some
    (λ k inside. c.row_in-row.ensures.row k inside))
    c.put_line.ensures.before
