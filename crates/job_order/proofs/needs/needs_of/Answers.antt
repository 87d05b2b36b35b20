use Rattle.std.proofs.Common.{◌↔◌, ◌∙◌, sym, subst, ap}
use Rattle.vp9_types.specs.declared.job.JobName.{JobName}
use Rattle.job_order.specs.Needs.{IsNeed}
use Rattle.job_order.specs.Code.{Names, needs, no_bands}
use Rattle.job_order.proofs.Spans.{parsed_there, built_filter, built_write, close_named, filter_named, write_named, row_inside}
use Rattle.job_order.proofs.needs.needs_of.Goals as goal

pub columns_of-requires : goal.columns_of-requires
columns_of-requires c = parsed_there c.args.segments.now c.requires.order c.args.window c.args.reads c.args.job c.in-Close.frame c.in-Close.is c.requires.listed

pub row_of-requires : goal.row_of-requires
row_of-requires c = built_filter c.args.segments.now c.requires.order c.args.window c.args.reads c.args.job c.in-Filter.frame c.in-Filter.row c.in-Filter.is c.requires.listed

pub needs_of_write-requires : goal.needs_of_write-requires
needs_of_write-requires c = built_write c.args.segments.now c.requires.order c.args.window c.args.reads c.args.job c.in-Write.frame c.in-Write.is c.requires.listed

pub returns-in-Close : goal.returns-in-Close
returns-in-Close c =
    let e = c.columns_of.ensures in
    subst (λ (j : JobName). (need : JobName) → IsNeed c.args.segments.now c.args.window c.args.reads j need ↔ Names c.args.segments.now c.by_jobs-in-Close.result need) (sym c.in-Close.is)
    (close_named c.args.segments.now c.requires.order c.args.window c.args.reads c.in-Close.frame e.0 e.1 c.by_jobs-in-Close.result c.columns_of.result e.2
    (c.by_jobs-in-Close.ensures ∙ ap (λ s. needs s c.columns_of.result no_bands) c.one-in-Close.ensures))

pub returns-in-Filter : goal.returns-in-Filter
returns-in-Filter c =
    let e = c.row_of.ensures in
    subst (λ (j : JobName). (need : JobName) → IsNeed c.args.segments.now c.args.window c.args.reads j need ↔ Names c.args.segments.now c.by_jobs-in-Filter.result need) (sym c.in-Filter.is)
    (filter_named c.args.segments.now c.requires.order c.args.window c.args.reads c.in-Filter.frame c.in-Filter.row e.0 e.1 e.2 e.3
    (row_inside c.args.segments.now c.requires.order c.args.window c.args.reads c.args.job c.in-Filter.frame c.in-Filter.row e.0 e.1 e.2 e.3 c.in-Filter.is c.requires.listed)
    c.by_jobs-in-Filter.result c.row_of.result c.filter_above.result e.4 c.filter_above.ensures c.by_jobs-in-Filter.ensures)

pub returns-in-Write : goal.returns-in-Write
returns-in-Write c =
    let e = c.needs_of_write.ensures in
    subst (λ (j : JobName). (need : JobName) → IsNeed c.args.segments.now c.args.window c.args.reads j need ↔ Names c.args.segments.now c.needs_of_write.result need) (sym c.in-Write.is)
    (write_named c.args.segments.now c.requires.order c.args.window c.args.reads c.in-Write.frame e.0 e.1 e.2 e.3 c.needs_of_write.result e.4)
