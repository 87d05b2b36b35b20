use Rattle.std.proofs.Common.{◌+◌, ◌*◌, ◌∙◌, arith}
use Rattle.intra_predict.proofs.Slants.{IsLine207, d207_line}
use Rattle.intra_predict.proofs.diagonal.predict_d207.Goals as goal

pub returns : goal.returns
returns g c = λ i j below low. let a = c.args in
    let line : IsLine207 g.row.N a.left.now c.interleave.new.line c.extend_lanes.new.line = record {
      edges = λ k lt. c.extend_lanes.ensures k lt;
      means = λ k lt. c.interleave.ensures k (omega arith);
    } in
    c.rows_forward.ensures i j below low
    ∙ d207_line g.row.N a.left.now c.interleave.new.line c.extend_lanes.new.line c.requires.some line i j (2 * i + j) below low (omega arith) (omega arith)
