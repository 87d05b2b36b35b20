use Rattle.std.proofs.Common.{refl, arith}
use Rattle.frame_state.proofs.ColumnSteps.{begins_by}
use Rattle.frame_state.proofs.columns.TileColumn.new.Goals as goal

pub returns-clause-is : goal.returns-clause-is
returns-clause-is c =
    let span = c.of-span.ensures in
    begins_by c.args.setting.now c.args.k (record { grid = c.in_ok-new.field-0; sides = c.in_ok-new-2.field-0 })
    (rw c.in_ok-new.ensures refl) (rw c.in_ok-new.ensures span.from) (rw c.in_ok-new.ensures span.to) (rw c.shape.ensures at c.in_ok-new-2.ensures.fit)
    (rw (c.in_ok-new.ensures, span.blocks) (omega arith)) (rw c.in_ok-new.ensures refl)
