use Rattle.std.proofs.Common.{arith}
use Rattle.residue_transforms.proofs.Loads.{down_made}
use Rattle.residue_transforms.proofs.cross.crossed_rows.Goals as goal

pub returns-clause-second : goal.returns-clause-second
returns-clause-second c =
    down_made c.args.n c.args.from.now c.args.place 1 c.four_at.result c.four_at-2.result c.four_at-3.result c.four_at-4.result c.crossed.result.1 c.requires.small (omega arith)
    c.four_at.ensures c.four_at-2.ensures c.four_at-3.ensures c.four_at-4.ensures c.crossed.ensures.second

pub returns-clause-third : goal.returns-clause-third
returns-clause-third c =
    down_made c.args.n c.args.from.now c.args.place 2 c.four_at.result c.four_at-2.result c.four_at-3.result c.four_at-4.result c.crossed.result.2 c.requires.small (omega arith)
    c.four_at.ensures c.four_at-2.ensures c.four_at-3.ensures c.four_at-4.ensures c.crossed.ensures.third

pub returns-clause-fourth : goal.returns-clause-fourth
returns-clause-fourth c =
    down_made c.args.n c.args.from.now c.args.place 3 c.four_at.result c.four_at-2.result c.four_at-3.result c.four_at-4.result c.crossed.result.3 c.requires.small (omega arith)
    c.four_at.ensures c.four_at-2.ensures c.four_at-3.ensures c.four_at-4.ensures c.crossed.ensures.fourth
