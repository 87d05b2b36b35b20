use Rattle.std.proofs.Common.{◌+◌, ◌*◌, ◌∙◌, arith}
use Rattle.intra_predict.proofs.Slants.{d45_line}
use Rattle.intra_predict.proofs.diagonal.predict_d45.Goals as goal

pub returns : goal.returns
returns g c = λ i j below low. let a = c.args in
    c.rows_forward.ensures i j below low
    ∙ d45_line g.row.N a.above.now c.smooth.new.line c.requires.some (omega arith) c.smooth.ensures.means i j (1 * i + j) below low (omega arith)
