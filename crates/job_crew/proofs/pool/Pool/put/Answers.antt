use Rattle.std.proofs.Common.{◌≡◌, ◌∙◌, sym, subst, Some, arith}
use Rattle.job_order.specs.JobSegments.{job_at}
use Rattle.job_order.specs.Code.{IsMark}
use Rattle.job_crew.proofs.Pools.{moves, puts}
use Rattle.job_crew.proofs.Shops.{shop_draws}
use Rattle.job_crew.proofs.pool.Pool.put.Goals as goal

pub invariant_of-self : goal.invariant_of-self
invariant_of-self g c = (
  moves _ _ _ _ _ _ _ _ c.self.invariant.0 (subst (λ s. IsMark s c.job_from.new.mark) c.deref.ensures.value c.job_from.ensures.mark)
      (omega (arith, c.job_from.ensures.later, c.if-ticket-self.false)),
  c.self.invariant.1,
  c.self.invariant.2,
  c.self.invariant.3,
)

pub invariant_of-self-2 : goal.invariant_of-self-2
invariant_of-self-2 g c =
    let there : job_at c.self.inside.segments.items c.args.ticket ≡ Some c.in_ok-job.job = subst (λ s. job_at s c.args.ticket ≡ Some c.in_ok-job.job) c.deref.ensures.value (sym c.job_from.ensures.job ∙ c.in_ok-job.was) in (
      rw c.push_reserved.ensures.items
          (puts _ _ _ _ _ _ _ _ _ _ c.self.invariant.0 (subst (λ s. IsMark s c.job_from.new.mark) c.deref.ensures.value c.job_from.ensures.mark) c.job_from.ensures.later (c.args.ticket, there)),
      omega (arith, c.push_reserved.ensures.capacity, c.self.invariant.1),
      c.self.invariant.2,
      shop_draws g.M.Meaning.rules g.M.Meaning.truth g.W.Window.window _ _ _ _ _ _ c.self.invariant.3 c.args.ticket c.push.new.self.base c.in_ok-job.job c.push.new.self.marks.items
          c.if-ticket-self.false there c.push.ensures.base (c.push.ensures.yes c.if-not-push.false),
    )
