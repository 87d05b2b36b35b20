use Rattle.std.proofs.Common.{subst}
use Rattle.job_order.specs.Code.{IsIn}
use Rattle.job_crew.specs.Code.{IsDone}
use Rattle.job_crew.proofs.Named.{columns_in, row_in}
use Rattle.job_crew.proofs.pool.Pool.is_span_done.Goals as goal

pub returns-in-Columns : goal.returns-in-Columns
returns-in-Columns g c = λ yes need n.
    columns_in (λ job. IsDone c.args.self.now job) c.in-Columns.frame c.in-Columns.columns (c.are_columns_done.ensures yes) need (subst (λ s. IsIn s need) c.in-Columns.is n)

pub returns-in-RowOf : goal.returns-in-RowOf
returns-in-RowOf g c = λ yes need n.
    row_in (λ job. IsDone c.args.self.now job) c.in-RowOf.frame c.in-RowOf.row c.in-RowOf.columns (c.is_row_done.ensures yes) need (subst (λ s. IsIn s need) c.in-RowOf.is n)
