use Rattle.job_order.proofs.Walk.{mark_stays}
use Rattle.job_order.proofs.laws.marks_stay.Goals as goal

pub returns : goal.returns
returns c = mark_stays
