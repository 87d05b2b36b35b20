use Rattle.job_crew.proofs.Marked.{rows_place, filter_place, write_place}
use Rattle.job_crew.proofs.tickets.build_place.Goals as goal

pub returns-in-Rows : goal.returns-in-Rows
returns-in-Rows c =
    rows_place c.args.frame c.args.columns c.args.rows c.args.job c.in-Rows.own c.in-Rows.column c.in-Rows.row _ c.checked_add.result c.in-Rows.is c.if-own-frame.true c.if-column-columns.true
    c.if-row-rows.true c.checked_add.ensures

pub returns-in-Filter : goal.returns-in-Filter
returns-in-Filter c =
    filter_place c.args.frame c.args.columns c.args.rows c.args.job c.in-Filter.own c.in-Filter.row _ c.checked_add-in-Filter.result c.in-Filter.is c.if-own-frame-2.true c.if-row-rows-2.true
    c.checked_add-in-Filter.ensures

pub returns-in-Write : goal.returns-in-Write
returns-in-Write c =
    write_place c.args.frame c.args.columns c.args.rows c.args.job c.in-Write.own _ c.checked_add-in-Write.result c.in-Write.is c.if-own-frame-3.true c.checked_add-in-Write.ensures
