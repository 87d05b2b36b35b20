use Rattle.std.proofs.Common.{◌<◌}
use Rattle.vp9_tables.specs.Scans.{area}
use Rattle.coef_tokens.specs.Code.{tables_of}
use Rattle.coef_tokens.proofs.Turns.{later_row}
use Rattle.coef_tokens.proofs.places.row_of.Goals as goal

pub returns-clause-value : goal.returns-clause-value
returns-clause-value c = λ first reads holds.
    let low : c.args.place < area c.args.tables.now.tx = rw c.args.tables.now.fit.scan at c.requires.place in
    later_row (tables_of c.args.tables.now) first c.args.place reads c.context_of-context.result
    (c.args.tables.now.bands_start.later c.args.place c.requires.later low) (c.context_of-context.ensures.value first reads holds)
