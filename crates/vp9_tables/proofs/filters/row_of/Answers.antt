use Rattle.vp9_tables.proofs.Ranges.{row_of_taps, row_are_taps}
use Rattle.vp9_tables.proofs.filters.row_of.Goals as goal

pub returns-clause-size : goal.returns-clause-size
returns-clause-size c = row_of_taps c.args.table.now c.args.place c.requires.law c.requires.index

pub returns-clause-sums : goal.returns-clause-sums
returns-clause-sums c = row_are_taps c.args.table.now c.args.place c.requires.law c.requires.sums c.requires.index
