use Rattle.std.proofs.Common.{ℕ, ◌+◌, ◌*◌, ◌∙◌, ap, arith, get_or, map}
use Rattle.inter_predict.proofs.Agree.{filtered_same}
use Rattle.inter_predict.proofs.InPlane.{below_moved}
use Rattle.inter_predict.proofs.in_plane.DownRowsTapsRowMaker.make.Goals as goal

pub returns : goal.returns
returns g c = λ j low. let a = c.args in let m = a.self.now in let lines = map g.P.Sample.value m.lines.now in
    c.filter_down.ensures.value j low
    ∙ filtered_same m.down.now.most (g.P.FilterSample.stand_for m.down.now.taps) (λ (k : ℕ). get_or lines (a.i * g.row.N + k * g.row.N + j) 0)
    (λ (k : ℕ). get_or lines ((a.i + k) * g.row.N + j) 0) (λ k few. ap (λ (z : ℕ). get_or lines z 0) (below_moved a.i k g.row.N j))
