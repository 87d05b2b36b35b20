use Rattle.job_crew.proofs.Marked.{column_place, close_place}
use Rattle.job_crew.proofs.tickets.parse_place.Goals as goal

pub returns-in-Column : goal.returns-in-Column
returns-in-Column c = column_place c.args.frame c.in-Column.own c.args.columns c.in-Column.column c.args.job c.in-Column.is c.if-own-frame.true c.if-column-columns.true

pub returns-in-Close : goal.returns-in-Close
returns-in-Close c = close_place c.args.frame c.in-Close.own c.args.columns c.args.job c.in-Close.is c.if-own-frame-2.true
