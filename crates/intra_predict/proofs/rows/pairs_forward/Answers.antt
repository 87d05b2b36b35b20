use Rattle.std.proofs.Common.{◌+◌, ◌*◌, get_or, arith}
use Rattle.intra_predict.proofs.RowLemmas.{pair_more, row_fits}
use Rattle.intra_predict.proofs.rows.pairs_forward.Goals as goal

pub put_row-requires-clause-room : goal.put_row-requires-clause-room
put_row-requires-clause-room g c = row_fits g.row.N (2 * c.loop-k.k) _ (omega arith) (omega arith)

pub put_row-requires-in-loop-k-clause-room : goal.put_row-requires-in-loop-k-clause-room
put_row-requires-in-loop-k-clause-room g c = row_fits g.row.N (2 * c.loop-k.k + 1) _ (omega arith) (omega arith)

pub loop-k-preserved : goal.loop-k-preserved
loop-k-preserved g c = let a = c.args in
    pair_more (λ k j. get_or a.even.now (k + j) 0) (λ k j. get_or a.odd.now (k + j) 0) g.row.N c.loop-k.k
    c.loop-k.block c.put_row.new.block c.put_row-in-loop-k.new.block c.loop-k.invariant
    c.put_row.ensures.row c.put_row.ensures.before c.put_row-in-loop-k.ensures.row c.put_row-in-loop-k.ensures.before
