use Rattle.std.proofs.Common.{◌+◌, ◌*◌, ◌-◌, get_or}
use Rattle.intra_predict.proofs.RowLemmas.{row_more}
use Rattle.intra_predict.proofs.rows.rows_backward.Goals as goal

pub loop-i-preserved : goal.loop-i-preserved
loop-i-preserved g c = let a = c.args in
    row_more (λ i j. get_or a.line.now (a.step * (g.row.N - 1 - i) + j) 0) g.row.N c.loop-i.i c.loop-i.block c.put_row.new.block
    c.loop-i.invariant c.put_row.ensures.row c.put_row.ensures.before
