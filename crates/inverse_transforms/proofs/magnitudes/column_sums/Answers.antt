use Rattle.std.proofs.Common.{[], arith}
use Rattle.inverse_transforms.proofs.CalmColumns.{column_weight, column_left}
use Rattle.inverse_transforms.proofs.magnitudes.column_sums.Goals as goal

pub with_magnitudes-sums-requires-clause-room : goal.with_magnitudes-sums-requires-clause-room
with_magnitudes-sums-requires-clause-room c = λ j low.
    omega (arith, c.loop-row.invariant j low, column_weight c.args.t.now j c.requires.size c.requires.small)

pub loop-row-preserved : goal.loop-row-preserved
loop-row-preserved c = λ j low.
    omega (arith, c.loop-row.invariant j low, c.with_magnitudes-sums.ensures j low, column_left c.args.t.now j c.loop-row.row-index [] c.loop-row-test.true)
