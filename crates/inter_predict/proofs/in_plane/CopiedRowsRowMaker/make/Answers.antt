use Rattle.std.proofs.Common.{◌≡◌, ℕ, ◌+◌, ◌*◌, ◌∙◌, refl, ap, arith, get_or, map}
use Rattle.inter_predict.proofs.Values.{copied_is}
use Rattle.inter_predict.proofs.in_plane.CopiedRowsRowMaker.make.Goals as goal

pub returns : goal.returns
returns g c = λ j low. let a = c.args in let m = a.self.now in let value = g.P.Sample.value in
    let at : ℕ = a.i * m.stride + m.from in
    let here : at + j ≡ a.i * m.stride + (m.from + j) = omega arith in
    c.copy_short-2.ensures j low
    ∙ (c.copy_short.ensures j low
    ∙ (copied_is value m.samples.now _ at g.row.N j refl low ∙ ap (λ (z : ℕ). get_or (map value m.samples.now) z 0) here))
