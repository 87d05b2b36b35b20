use Rattle.std.proofs.Common.{⊎_elim, inr}
use Rattle.job_order.specs.Code.{IsInOne, PublishesOne}
use Rattle.job_order.proofs.ready.are_done.Goals as goal

pub returns-clause-yes : goal.returns-clause-yes
returns-clause-yes g c = λ yes need n.
    ⊎_elim
    (λ (x : IsInOne c.args.needs.jobs need). c.are_jobs_done.ensures.yes c.if-not-are_jobs_done.false need x)
    (λ (x : PublishesOne c.args.segments.now c.args.needs.bands need). c.are_all_out.ensures.yes yes need x)
    n

pub returns-clause-no : goal.returns-clause-no
returns-clause-no g c = λ no all. c.are_all_out.ensures.no no (λ need n. all need (inr n))
