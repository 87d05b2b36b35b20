use Rattle.std.proofs.Common.{◌∙◌, sym, None}
use Rattle.std.specs.Prelude.{slice_index_or}
use Rattle.header_checks.proofs.Numbers.{some_held}
use Rattle.header_checks.proofs.headers.is_well_formed.Goals as goal

pub returns-then-slot-lt8-clause-well : goal.returns-then-slot-lt8-clause-well
returns-then-slot-lt8-clause-well c = λ some.
    rw c.in-ShowExisting.is (c.if-slot-lt8.true, some_held (slice_index_or c.args.before.now.slots c.in-ShowExisting.slot None) (rw c.from.ensures at (sym c.is_some.ensures ∙ some)))
