use Rattle.job_order.proofs.Walk.{column_at, close_at}
use Rattle.job_order.proofs.segment.parse_job.Goals as goal

pub returns-then-place-columns : goal.returns-then-place-columns
returns-then-place-columns c = column_at c.args.frame c.args.columns c.args.place c.if-place-columns.true

pub returns-else-place-columns : goal.returns-else-place-columns
returns-else-place-columns c = close_at c.args.frame c.args.columns c.args.place c.if-place-columns.false c.requires
