use Rattle.std.specs.Arc.{arc_value}
use Rattle.job_crew.specs.Code.{narrowed}
use Rattle.job_crew.proofs.Kept.{narrowed_none}
use Rattle.job_crew.proofs.frame.narrow.Goals as goal

pub returns-in-Some : goal.returns-in-Some
unfolding narrowed
returns-in-Some g c = rw c.in-Some.ensures.cases.0 c.keep.ensures

pub returns-in-None : goal.returns-in-None
returns-in-None g c = rw c.new.ensures.items (narrowed_none c.args.named.now c.args.before.now (λ cells. (arc_value cells).frame) c.in-None.ensures.cases)
