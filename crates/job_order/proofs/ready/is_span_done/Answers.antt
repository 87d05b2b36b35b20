use Rattle.std.proofs.Common.{sym, subst}
use Rattle.job_order.specs.Code.{IsInIf}
use Rattle.job_order.proofs.ready.is_span_done.Goals as goal

pub returns-in-Some-clause-yes : goal.returns-in-Some-clause-yes
returns-in-Some-clause-yes g c = λ yes need n. c.is_each_done.ensures.yes yes need (subst (λ o. IsInIf o need) c.in-Some.is n)

pub returns-in-Some-clause-no : goal.returns-in-Some-clause-no
returns-in-Some-clause-no g c = λ no all. c.is_each_done.ensures.no no (λ need n. all need (subst (λ o. IsInIf o need) (sym c.in-Some.is) n))
