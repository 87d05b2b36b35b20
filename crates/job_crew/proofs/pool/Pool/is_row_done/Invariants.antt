use Rattle.std.proofs.Common.{ℕ, ◌<◌}
use Rattle.vp9_types.specs.declared.job.JobName.TheVariants.{Rows}
use Rattle.job_crew.specs.Code.{IsDone}
use Rattle.job_crew.proofs.pool.Pool.is_row_done.Given as goal

abbrev pub invariant-loop-column : goal.invariant-loop-column
invariant-loop-column g l = (c : ℕ) → c < l.column → IsDone l.self (Rows l.frame c l.row)
