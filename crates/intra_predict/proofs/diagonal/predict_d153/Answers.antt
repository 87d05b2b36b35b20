use Rattle.std.proofs.Common.{◌+◌, ◌*◌, ◌-◌, ◌∷◌, ◌∙◌, arith}
use Rattle.intra_predict.proofs.Joins.{Joined}
use Rattle.intra_predict.proofs.Slants.{IsLine153, d153_line}
use Rattle.intra_predict.proofs.diagonal.predict_d153.Goals as goal

pub returns : goal.returns
returns g c = λ i j below low. let a = c.args in
    let joined : Joined g.row.N c.join.new.line (a.corner ∷ a.above.now) (a.corner ∷ a.left.now) = record { downs = c.join.ensures.down; ups = c.join.ensures.up } in
    let line : IsLine153 g.row.N c.join.new.line c.smooth.new.line = record {
      front = λ k lt. c.smooth.ensures.before k lt ∙ c.interleave.ensures k lt;
      tail = c.smooth.ensures.means;
    } in
    c.rows_backward.ensures i j below low
    ∙ d153_line g.row.N c.join.new.line (a.corner ∷ a.above.now) (a.corner ∷ a.left.now) c.smooth.new.line joined line
    i j (2 * (g.row.N - 1 - i) + j) below low (omega arith)
