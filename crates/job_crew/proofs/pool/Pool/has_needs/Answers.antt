use Rattle.std.proofs.Common.{rules, ◌≡◌, ◌∙◌, length, ap, sym, subst}
use Rattle.job_order.specs.Needs.{IsNeed}
use Rattle.job_order.specs.Code.{Names}
use Rattle.job_crew.specs.Code.{PoolParts, IsDone}
use Rattle.job_crew.proofs.Named.{each_named}
use Rattle.job_crew.proofs.pool.Pool.has_needs.Goals as goal

pub returns : goal.returns
returns g c = λ yes need n.
    let two : length c.needs_of-needs.result.jobs ≡ 2 = search rules in
    let three : length c.needs_of-needs.result.bands ≡ 3 = search rules in
    let same : c.deref.result.now ≡ c.args.self.now.segments = c.deref.ensures.value ∙ ap (λ (v : PoolParts). v.segments) c.self.view_is in
    let here : IsNeed c.deref.result.now c.self.inside.window c.args.reads c.args.job need =
    subst (λ s. IsNeed s c.self.inside.window c.args.reads c.args.job need) (sym same)
    (subst (λ i. IsNeed c.args.self.now.segments i c.args.reads c.args.job need) (sym (ap (λ (v : PoolParts). v.window) c.self.view_is)) n) in
    each_named (λ job. IsDone c.args.self.now job) c.args.self.now.segments c.needs_of-needs.result two three (c.are_done.ensures c.if-not-are_done.false)
    (c.are_done-else-not-are_done.ensures c.if-not-are_done-2.false) (c.are_published.ensures c.if-not-are_published.false)
    (c.are_published-else-not-are_published.ensures c.if-not-are_published-2.false) (c.are_published-2.ensures yes) need
    (subst (λ s. Names s c.needs_of-needs.result need) same ((c.needs_of-needs.ensures need).0 here))
