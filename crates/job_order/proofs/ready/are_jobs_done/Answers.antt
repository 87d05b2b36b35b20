use Rattle.std.proofs.Common.{rules, ◌≡◌, [], length, reverse}
use Rattle.job_order.proofs.Readiness.{jobs_named, second_named}
use Rattle.job_order.proofs.ready.are_jobs_done.Goals as goal

pub returns-clause-yes : goal.returns-clause-yes
returns-clause-yes g c = λ yes.
    let long : length c.args.jobs ≡ 2 = search rules in
    jobs_named [] (reverse c.args.finished.now) c.args.jobs long (c.is_span_done.ensures.yes c.if-not-is_span_done.false) (c.is_span_done-2.ensures.yes yes)

pub returns-clause-no : goal.returns-clause-no
returns-clause-no g c = λ no all. c.is_span_done-2.ensures.no no (second_named [] (reverse c.args.finished.now) c.args.jobs all)
