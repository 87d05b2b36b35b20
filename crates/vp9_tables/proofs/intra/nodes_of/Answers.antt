use Rattle.vp9_tables.proofs.Ranges.{row_of_probabilities}
use Rattle.vp9_tables.proofs.intra.nodes_of.Goals as goal

pub returns-clause-range : goal.returns-clause-range
returns-clause-range c = row_of_probabilities c.args.table.now c.args.place c.requires.law c.requires.index
