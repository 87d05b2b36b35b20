use Rattle.std.proofs.Common.{◌+◌, ◌/◌, ◌-◌, ◌∷◌, ◌∙◌, zero-add, arith}
use Rattle.intra_predict.proofs.Joins.{Joined}
use Rattle.intra_predict.proofs.Slants.{AreLines117, d117_line}
use Rattle.intra_predict.proofs.diagonal.predict_d117.Goals as goal

pub returns : goal.returns
returns g c = λ i j below low. let a = c.args in
    let joined : Joined g.row.N c.join.new.line (a.corner ∷ a.above.now) (a.corner ∷ a.left.now) = record { downs = c.join.ensures.down; ups = c.join.ensures.up } in
    let lines : AreLines117 g.row.N c.join.new.line c.average.new.line c.smooth.new.line = record {
      twos = c.requires.twos;
      even_left = λ k lt. c.average.ensures.before k lt ∙ simp zero-add at (c.smooth_every_other.ensures.means k lt);
      even_right = c.average.ensures.means;
      odd_left = λ k lt. c.smooth.ensures.before (1 + k) (omega arith) ∙ c.smooth_every_other-2.ensures.means k lt;
      odd_right = c.smooth.ensures.means;
    } in
    c.pairs_backward.ensures i j below low
    ∙ d117_line g.row.N c.join.new.line (a.corner ∷ a.above.now) (a.corner ∷ a.left.now) c.average.new.line c.smooth.new.line joined lines
    i j (g.row.N / 2 - i / 2 + j) below low (omega arith)
