use Rattle.std.proofs.Common.{◌∙◌, ap, sym, refl}
use Rattle.std.specs.Prelude.{Ok}
use Rattle.stream_trial.proofs.Counts.{broken_counted, coded_counted, one_if, shown_counted}
use Rattle.stream_trial.proofs.count.count_frame.Goals as goal

pub returns-then-header-clause-counts : goal.returns-then-header-clause-counts
returns-then-header-clause-counts c =
    coded_counted c.args.frame.now c.args.persist.now c.next.result c.in-Ok-Coded.header _ 1 (sym c.in-Ok-Coded.ensures.exact ∙ ap Ok c.in-Ok-Coded.field-0-is)
    c.next.ensures.persists (sym (ap one_if c.if-header.true))

pub returns-else-header-clause-counts : goal.returns-else-header-clause-counts
returns-else-header-clause-counts c =
    coded_counted c.args.frame.now c.args.persist.now c.next.result c.in-Ok-Coded.header _ 0 (sym c.in-Ok-Coded.ensures.exact ∙ ap Ok c.in-Ok-Coded.field-0-is)
    c.next.ensures.persists (sym (ap one_if c.if-header.false))

pub returns-in-Ok-ShowExisting-clause-counts : goal.returns-in-Ok-ShowExisting-clause-counts
returns-in-Ok-ShowExisting-clause-counts c =
    shown_counted c.args.frame.now c.args.persist.now c.args.persist.now _ (sym c.in-Ok-ShowExisting.ensures.exact ∙ ap Ok c.in-Ok-ShowExisting.field-0-is) refl

pub returns-in-Err-clause-counts : goal.returns-in-Err-clause-counts
returns-in-Err-clause-counts c =
    broken_counted c.args.frame.now c.args.persist.now c.args.persist.now _ 0 (sym c.in-Err.ensures.exact)
