use Rattle.std.proofs.Common.{subst}
use Rattle.job_order.specs.Needs.{IsInSpan}
use Rattle.job_crew.proofs.pool.Pool.are_published.Goals as goal

pub returns-in-Some : goal.returns-in-Some
returns-in-Some g c = λ yes f band row inside p. c.are_out.ensures yes f band row (subst (λ s. IsInSpan s f band) c.in-Some.is inside) p
