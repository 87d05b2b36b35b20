use Rattle.std.proofs.Common.{reverse}
use Rattle.vp9_types.specs.declared.job.JobName.TheVariants.{Column}
use Rattle.job_order.specs.Worlds.{IsFinished}
use Rattle.job_order.proofs.Readiness.{all_below}
use Rattle.job_order.proofs.ready.are_columns_done.Goals as goal

pub loop-column-preserved : goal.loop-column-preserved
loop-column-preserved g c = all_below (λ i. IsFinished (reverse c.args.finished.now) (Column c.args.frame i)) c.loop-column.column c.loop-column.invariant (c.is_done.ensures.yes c.if-not-is_done.false)
