use Rattle.std.proofs.Common.{sym, subst, arith}
use Rattle.job_order.specs.JobSegments.{IsListed}
use Rattle.job_crew.proofs.Pools.{named, takes}
use Rattle.job_crew.proofs.pool.Pool.remove.Goals as goal

pub invariant_of-self : goal.invariant_of-self
invariant_of-self g c =
    (rw c.remove.ensures.by_index.2 (takes _ _ _ _ _ _ _ c.args.at c.self.invariant.0), omega (arith, c.remove.ensures.capacity, c.self.invariant.1), c.self.invariant.2, c.self.invariant.3)

pub returns-then-at-len-clause-due : goal.returns-then-at-len-clause-due
returns-then-at-len-clause-due g c =
    let inside = named _ _ _ _ _ _ _ c.args.at c.remove.result c.self.invariant.0 (omega (arith, c.if-at-len.true, c.len.ensures)) in
    c.self.invariant.0.due c.remove.result (subst (λ j. IsListed c.self.inside.segments.items j) (sym c.remove.ensures.value) inside)
