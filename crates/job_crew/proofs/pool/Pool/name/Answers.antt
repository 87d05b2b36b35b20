use Rattle.std.proofs.Common.{sym, subst, arith}
use Rattle.job_order.specs.JobSegments.{IsListed}
use Rattle.job_crew.proofs.Pools.{named}
use Rattle.job_crew.proofs.pool.Pool.name.Goals as goal

pub returns-then-at-len-clause-listed : goal.returns-then-at-len-clause-listed
returns-then-at-len-clause-listed g c =
    let inside = named _ _ _ _ _ _ _ c.args.at c.index.result.now c.self.invariant.0 (omega (arith, c.if-at-len.true, c.len.ensures)) in
    subst (λ v. IsListed v.segments c.index.result.now) c.self.view_is (subst (λ j. IsListed c.self.inside.segments.items j) (sym c.index.ensures) inside)

pub returns-then-at-len-clause-due : goal.returns-then-at-len-clause-due
returns-then-at-len-clause-due g c =
    let inside = named _ _ _ _ _ _ _ c.args.at c.index.result.now c.self.invariant.0 (omega (arith, c.if-at-len.true, c.len.ensures)) in
    c.self.invariant.0.due c.index.result.now (subst (λ j. IsListed c.self.inside.segments.items j) (sym c.index.ensures) inside)
