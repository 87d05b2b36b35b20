use Rattle.std.proofs.Common.{◌≡◌, ◌≤◌, ◌-◌, drop, length}
use Rattle.job_order.specs.JobSegments.{job_at}
use Rattle.job_order.specs.Code.{IsMark}
use Rattle.job_order.proofs.order.job_from.Given as goal

abbrev pub invariant-loop-mark : goal.invariant-loop-mark
invariant-loop-mark l = record { is : IsMark l.segments l.mark; later : l.mark.ticket ≤ l.ticket; so : job_at l.segments l.ticket ≡ job_at (drop l.mark.segment l.segments) (l.ticket - l.mark.ticket) }

abbrev pub decreases-loop-mark : goal.decreases-loop-mark
decreases-loop-mark l = length l.segments - l.mark.segment
