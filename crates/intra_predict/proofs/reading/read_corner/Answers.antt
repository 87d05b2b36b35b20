use Rattle.std.proofs.Common.{◌≡◌, ◌+◌, ◌-◌, ◌∙◌, arith, ap, sym}
use Rattle.std.proofs.lemmas.List.{get_or-map}
use Rattle.planes.specs.Planes.{plane_map}
use Rattle.intra_predict.proofs.EdgeLemmas.{corner_read}
use Rattle.intra_predict.proofs.reading.read_corner.Goals as goal

pub returns : goal.returns
returns g c = let a = c.args in
    let here : a.place.now.column - 1 + 0 ≡ a.place.now.column - 1 = omega arith in
    let first = c.row_above.ensures.samples 0 (omega arith) in
    let row = c.row_above.result.now in
    c.widen.ensures
    ∙ (ap g.P.Sample.value c.index-row_above-0.is
    ∙ (sym (get_or-map g.P.Sample.value row 0 c.index-row_above-0.result 0 (omega (arith, c.row_above.ensures.long)))
    ∙ ((rw here at first) ∙ corner_read a.place.now a.depth (plane_map a.plane.now) (omega arith) (omega arith))))
