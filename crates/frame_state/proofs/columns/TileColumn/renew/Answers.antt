use Rattle.std.proofs.Common.{refl}
use Rattle.frame_state.proofs.ColumnSteps.{begins_by}
use Rattle.frame_state.proofs.columns.TileColumn.renew.Goals as goal

pub returns-clause-is : goal.returns-clause-is
returns-clause-is c =
    let span = c.of-span.ensures in
    let grid = c.in_ok-renew.ensures.grid in
    begins_by c.args.setting.now c.args.k (record { grid = c.renew.new.self; sides = c.renew-2.new.self })
    (rw grid refl) (rw grid span.from) (rw grid span.to) (rw c.shape.ensures at c.in_ok-renew-2.ensures.fit)
    (rw (grid, ← span.blocks) c.in_ok-renew.ensures.room) (rw grid refl)
