use Rattle.std.proofs.Common.{◌+◌, ◌∙◌, map}
use Rattle.inter_places.specs.Axes.{straight}
use Rattle.inter_predict.specs.Code.{strided}
use Rattle.inter_predict.proofs.Agree.{along_inside}
use Rattle.inter_predict.proofs.rows.fill_part.Goals as goal

pub returns-in-Some : goal.returns-in-Some
returns-in-Some g c = λ i j high low. let a = c.args in let p = a.place.now in
    c.fill_piece.ensures i j high low
    ∙ along_inside a.by.most a.by.kind p.across (strided c.in-Some.stride (map g.P.Sample.value c.in-Some.samples.now) i) (g.S.Samples.map a.view.now p.plane (straight p.down (a.first + i))) j c.requires.place.across.some
    (λ k inside. c.in-Some.ensures.samples i k high inside)
