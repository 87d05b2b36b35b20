use Rattle.std.proofs.Common.{arith}
use Rattle.mode_syntax.proofs.Anywhere.{few_places}
use Rattle.mode_syntax.proofs.partition.side_of.Goals as goal

pub returns-clause-most : goal.returns-clause-most
returns-clause-most c = omega (arith, few_places c.args.level c.requires)
