use Rattle.job_order.proofs.Readiness.{all_below}
use Rattle.vp9_types.specs.declared.job.JobName.TheVariants.{Rows}
use Rattle.job_crew.specs.Code.{IsDone}
use Rattle.job_crew.proofs.pool.Pool.is_row_done.Goals as goal

pub loop-column-preserved : goal.loop-column-preserved
loop-column-preserved g c =
    all_below (λ i. IsDone c.args.self.now (Rows c.args.frame i c.args.row)) c.loop-column.column c.loop-column.invariant (c.is_done.ensures c.if-not-is_done.false)
