use Rattle.std.proofs.Common.{refl}
use Rattle.vp9_tables.specs.declared.data.coefficients.TheConstants.{PARETO}
use Rattle.vp9_tables.proofs.Ranges.{row_of_probabilities}
use Rattle.vp9_tables.proofs.coefficients.pareto.Goals as goal

pub returns-clause-range : goal.returns-clause-range
returns-clause-range c = row_of_probabilities PARETO c.args.row refl c.requires
