use Rattle.std.proofs.Common.{◌<◌, arith}
use Rattle.vp9_tables.proofs.Ranges.{category_least}
use Rattle.vp9_tables.proofs.coefficients.category_probs.Goals as goal

pub returns-clause-range : goal.returns-clause-range
returns-clause-range c =
    rw c.category_table.ensures (let h : c.args.category < 7 = omega arith in category_least c.args.category c.args.depth h)
