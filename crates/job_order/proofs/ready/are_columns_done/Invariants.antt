use Rattle.std.proofs.Common.{ℕ, ◌<◌, ◌-◌, reverse}
use Rattle.vp9_types.specs.declared.job.JobName.TheVariants.{Column}
use Rattle.job_order.specs.Worlds.{IsFinished}
use Rattle.job_order.proofs.ready.are_columns_done.Given as goal

abbrev pub invariant-loop-column : goal.invariant-loop-column
invariant-loop-column g l = (c : ℕ) → c < l.column → IsFinished (reverse l.finished) (Column l.frame c)

abbrev pub decreases-loop-column : goal.decreases-loop-column
decreases-loop-column g l = l.columns - l.column
