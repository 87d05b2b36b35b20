use Rattle.std.proofs.Common.{◌≤◌, ◌-◌}
use Rattle.job_order.specs.JobSegments.{IsBelow}
use Rattle.job_order.specs.Code.{IsMark}
use Rattle.job_order.proofs.ready.is_drawn.Given as goal

abbrev pub invariant-loop-ticket : goal.invariant-loop-ticket
invariant-loop-ticket l = record { is : IsMark l.segments l.mark; later : l.mark.ticket ≤ l.ticket; none : ¬ IsBelow l.segments l.ticket l.job }

abbrev pub decreases-loop-ticket : goal.decreases-loop-ticket
decreases-loop-ticket l = l.drawn - l.ticket
