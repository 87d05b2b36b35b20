use Rattle.std.proofs.Common.{ℕ, ◌<◌}
use Rattle.vp9_types.specs.declared.job.JobName.TheVariants.{Column}
use Rattle.job_crew.specs.Code.{IsDone}
use Rattle.job_crew.proofs.pool.Pool.are_columns_done.Given as goal

abbrev pub invariant-loop-column : goal.invariant-loop-column
invariant-loop-column g l = (c : ℕ) → c < l.column → IsDone l.self (Column l.frame c)
