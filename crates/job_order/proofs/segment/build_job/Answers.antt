use Rattle.job_order.proofs.Walk.{rows_at, filter_at, write_at}
use Rattle.job_order.proofs.segment.build_job.Goals as goal

pub returns-then-row-rows : goal.returns-then-row-rows
returns-then-row-rows c = write_at c.args.frame c.args.columns c.args.rows c.args.place c.if-place-eq0.false c.if-row-rows.true c.requires.inside

pub returns-then-column-columns : goal.returns-then-column-columns
returns-then-column-columns c = filter_at c.args.frame c.args.columns c.args.rows c.args.place c.if-place-eq0.false c.if-row-rows.false c.if-column-columns.true

pub returns-else-column-columns : goal.returns-else-column-columns
returns-else-column-columns c = rows_at c.args.frame c.args.columns c.args.rows c.args.place c.if-place-eq0.false c.if-row-rows.false c.if-column-columns.false
