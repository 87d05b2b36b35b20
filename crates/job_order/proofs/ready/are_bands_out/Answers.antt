use Rattle.std.proofs.Common.{refl, sym, subst, reverse}
use Rattle.job_order.specs.Needs.{IsInSpan}
use Rattle.job_order.proofs.Readiness.{spans_out}
use Rattle.job_order.proofs.ready.are_bands_out.Goals as goal

pub returns-in-Some-clause-yes : goal.returns-in-Some-clause-yes
returns-in-Some-clause-yes g c = λ yes. spans_out c.args.segments.now (reverse c.args.finished.now) c.args.span c.in-Some.span c.in-Some.is (c.are_out.ensures.yes yes)

pub returns-in-Some-clause-no : goal.returns-in-Some-clause-no
returns-in-Some-clause-no g c = λ no all.
    c.are_out.ensures.no no
    (λ band row from to p. all c.in-Some.span.frame band row (subst (λ o. IsInSpan o c.in-Some.span.frame band) (sym c.in-Some.is) (refl, from, to)) p)
