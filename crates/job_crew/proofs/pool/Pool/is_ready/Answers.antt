use Rattle.std.proofs.Common.{◌≡◌, ◌+◌, false, slice_get, Some, sym, subst}
use Rattle.vp9_types.specs.declared.job.JobName.{JobName}
use Rattle.job_order.specs.JobSegments.{job_at}
use Rattle.job_order.specs.Needs.{IsNeed}
use Rattle.job_crew.specs.Code.{PoolParts, IsDone}
use Rattle.job_crew.specs.Events.{IsDoneBy}
use Rattle.job_crew.proofs.Shops.{may_begin}
use Rattle.job_crew.proofs.pool.Pool.is_ready.Goals as goal

pub returns : goal.returns
returns g c = λ _.
    let there : job_at c.self.inside.segments.items (c.self.inside.marks.base + c.in-Some.field-0) ≡ Some c.args.job =
    subst (λ (v : PoolParts). job_at v.segments (v.base + c.in-Some.field-0) ≡ Some c.args.job) (sym c.self.view_is) c.in-Some.ensures.there in
    let unset : slice_get c.self.inside.marks.marks.items c.in-Some.field-0 ≡ Some false =
    subst (λ (v : PoolParts). slice_get v.marks c.in-Some.field-0 ≡ Some false) (sym c.self.view_is) c.in-Some.ensures.open in
    let needs : (need : JobName) → IsNeed c.self.inside.segments.items c.self.inside.window c.args.reads c.args.job need
    → IsDoneBy c.self.inside.segments.items c.self.inside.marks.base c.self.inside.marks.marks.items need =
    subst (λ (v : PoolParts). (need : JobName) → IsNeed v.segments v.window c.args.reads c.args.job need → IsDone v need) (sym c.self.view_is) (c.has_needs.ensures c.if-not-has_needs.false) in
    may_begin g.M.Meaning.rules g.M.Meaning.truth g.W.Window.window c.self.inside.segments.items c.self.inside.starts.items c.self.inside.drawn c.self.inside.marks.base
    c.self.inside.marks.marks.items c.self.inside.over c.self.invariant.3 c.in-Some.field-0 c.args.job there unset c.args.reads c.requires.covers
    (subst (λ i. (need : JobName) → IsNeed c.self.inside.segments.items i c.args.reads c.args.job need
    → IsDoneBy c.self.inside.segments.items c.self.inside.marks.base c.self.inside.marks.marks.items need) c.self.invariant.2 needs)
