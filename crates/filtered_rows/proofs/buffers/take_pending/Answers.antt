use Rattle.std.proofs.Common.{◌∙◌, ◌-◌}
use Rattle.filtered_rows.proofs.Pending.{keeps_pending}
use Rattle.filtered_rows.proofs.buffers.take_pending.Goals as goal

pub returns-clause-kept : goal.returns-clause-kept
returns-clause-kept g c = let a = c.args in
    keeps_pending a.shape.now a.plane a.row (a.row - 1) a.from.now a.to.now _ c.requires.from (c.copy_part.ensures.area ∙ c.requires.to) (rw c.pending_part.ensures at c.copy_part.ensures.part)
