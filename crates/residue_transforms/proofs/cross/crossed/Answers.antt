use Rattle.std.proofs.Common.{arith}
use Rattle.residue_transforms.proofs.Crossings.{woven}
use Rattle.residue_transforms.proofs.cross.crossed.Goals as goal

pub returns-clause-first : goal.returns-clause-first
returns-clause-first c = woven c.args.a c.args.b c.args.c c.args.d 0 c.requires.a c.requires.b c.requires.c c.requires.d (omega arith)

pub returns-clause-second : goal.returns-clause-second
returns-clause-second c = woven c.args.a c.args.b c.args.c c.args.d 1 c.requires.a c.requires.b c.requires.c c.requires.d (omega arith)

pub returns-clause-third : goal.returns-clause-third
returns-clause-third c = woven c.args.a c.args.b c.args.c c.args.d 2 c.requires.a c.requires.b c.requires.c c.requires.d (omega arith)

pub returns-clause-fourth : goal.returns-clause-fourth
returns-clause-fourth c = woven c.args.a c.args.b c.args.c c.args.d 3 c.requires.a c.requires.b c.requires.c c.requires.d (omega arith)
