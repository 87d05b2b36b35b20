use Rattle.std.proofs.Common.{ℕ, ◌+◌, ◌<◌, ◌≤◌, ◌-◌, reverse}
use Rattle.vp9_types.specs.declared.job.JobName.TheVariants.{Filter}
use Rattle.job_order.specs.Needs.{Publishes}
use Rattle.job_order.specs.Worlds.{IsFinished}
use Rattle.job_order.proofs.ready.are_out.Given as goal

abbrev pub invariant-loop-band : goal.invariant-loop-band
invariant-loop-band g l =
    record {
      from : l.span.first ≤ l.band;
      all : (band : ℕ) → band < l.band → (row : ℕ) → l.span.first ≤ band → Publishes l.segments l.span.frame row band → IsFinished (reverse l.finished) (Filter l.span.frame row);
    }

abbrev pub decreases-loop-band : goal.decreases-loop-band
decreases-loop-band g l = l.span.last + 1 - l.band
