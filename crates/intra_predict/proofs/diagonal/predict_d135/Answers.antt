use Rattle.std.proofs.Common.{◌+◌, ◌*◌, ◌-◌, ◌∷◌, ◌∙◌, ℕ, zero-add, arith}
use Rattle.intra_predict.proofs.Joins.{Joined}
use Rattle.intra_predict.proofs.Slants.{d135_line}
use Rattle.intra_predict.proofs.diagonal.predict_d135.Goals as goal

pub returns : goal.returns
returns g c = λ i j below low. let a = c.args in
    let joined : Joined g.row.N c.join.new.line (a.corner ∷ a.above.now) (a.corner ∷ a.left.now) = record { downs = c.join.ensures.down; ups = c.join.ensures.up } in
    let p : ℕ = 1 * (g.row.N - 1 - i) + j in
    c.rows_backward.ensures i j below low
    ∙ simp zero-add at (c.smooth.ensures.means p (omega arith))
    ∙ d135_line g.row.N c.join.new.line (a.corner ∷ a.above.now) (a.corner ∷ a.left.now) joined i j p below low (omega arith)
