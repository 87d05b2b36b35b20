-- Steps of the example.
use Rattle.std.proofs.Common.{◌≡◌, ℕ, sym, ◌∙◌, ap, subst, Option, Ok, Err, IfOk, IfErr}
use Rattle.std.specs.declared.result.Result.{Result}
use Rattle.vp9_types.specs.declared.job.JobName.{JobName}
use Rattle.job_order.specs.declared.segment.Segment.{Segment}
use Rattle.job_order.specs.declared.event.Event.{Event}
use Rattle.job_order.specs.declared.event.Event.TheVariants.{Finish}
use Rattle.job_order.specs.Worlds.{WorldState, IsReady, Does, IsAllowed, IsReached, after, published}
use Rattle.job_order.specs.Sound.{frame_of}
use Rattle.job_order.specs.Example.{example_rules}

pub stepped : {A E : Type 0} (r : Result A E) (old new : WorldState ℕ) (e : Event ℕ) → IsReached example_rules 2 old → IsReached example_rules 2 (after example_rules old e)
    → IfOk r (λ _. new ≡ after example_rules old e) → IfErr r (λ _. new ≡ old) → IsReached example_rules 2 new
stepped (Ok x) old new e now next taken refused = subst (λ w. IsReached example_rules 2 w) (sym taken) next
stepped (Err x) old new e now next taken refused = subst (λ w. IsReached example_rules 2 w) (sym refused) now

pub may_finish : (w : WorldState ℕ) (job : JobName) (x : ℕ) (p : Option Segment) → x ≡ frame_of job → p ≡ published example_rules job (frame_of job) → IsReady example_rules w job
    → Does example_rules w job (frame_of job) → IsAllowed example_rules w (Finish job x p)
may_finish w job x p is so ready does =
    (ready, subst (λ y. Does example_rules w job y) (sym is) does, so ∙ ap (λ y. published example_rules job y) (sym is))
