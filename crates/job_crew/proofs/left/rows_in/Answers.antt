use Rattle.std.proofs.Common.{arith}
use Rattle.std.proofs.lemmas.List.{length-set}
use Rattle.job_crew.proofs.RowsLeft.{one_more_row}
use Rattle.job_crew.proofs.left.rows_in.Goals as goal

pub loop-row-preserved : goal.loop-row-preserved
loop-row-preserved g c =
    let i = c.loop-row.invariant in (
      omega (arith, i.0, length-set c.loop-row.cells.items c.loop-row.row c.row_in.new.cell),
      omega (arith, c.in_ok-push.ensures.len, i.1),
      one_more_row g.M.Meaning.truth c.args.frame c.loop-row.row c.loop-row.values.items _ _ i.2 i.1 c.row_in.ensures c.in_ok-push.ensures.items,
    )
