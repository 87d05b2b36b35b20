use Rattle.std.proofs.Common.{◌≡◌, ℕ, ◌+◌, ◌*◌, slice_get, Option, Some, subst}
use Rattle.vp9_types.specs.declared.job.JobName.TheVariants.{Filter}
use Rattle.job_order.specs.declared.segment.Segment.TheVariants.{Build}
use Rattle.job_order.specs.declared.segment.Shown.{Shown}
use Rattle.job_order.specs.Needs.{IsInSpan, Publishes}
use Rattle.job_crew.specs.Code.{PoolParts, IsDone}
use Rattle.job_crew.proofs.Shops.{out_before}
use Rattle.job_crew.proofs.pool.Pool.are_out.Goals as goal

pub returns-in-Some : goal.returns-in-Some
returns-in-Some g c = λ yes.
    let there : (f : ℕ) × (columns : ℕ) × (shown : Option Shown) × (slice_get c.self.inside.segments.items (2 * c.args.span.frame + 2) ≡ Some (Build f columns c.in-Some.rows shown)) =
    subst (λ s. (f : ℕ) × (columns : ℕ) × (shown : Option Shown) × (slice_get s (2 * c.args.span.frame + 2) ≡ Some (Build f columns c.in-Some.rows shown))) c.deref.ensures.value c.in-Some.ensures in
    subst
    (λ (v : PoolParts). IsDone v (Filter c.args.span.frame c.filter_of.result) → (f band row : ℕ) → IsInSpan (Some c.args.span) f band → Publishes v.segments f row band → IsDone v (Filter f row))
    c.self.view_is
    (out_before g.M.Meaning.rules g.M.Meaning.truth g.W.Window.window c.self.inside.segments.items c.self.inside.starts.items c.self.inside.drawn c.self.inside.marks.base
    c.self.inside.marks.marks.items c.self.inside.over c.self.invariant.3 c.self.invariant.0.order c.args.span c.in-Some.rows c.filter_of.result there c.filter_of.ensures.next c.filter_of.ensures.last)
    (c.is_done.ensures yes)
