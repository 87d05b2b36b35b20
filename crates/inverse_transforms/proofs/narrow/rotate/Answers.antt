use Rattle.std.proofs.Common.{rules, ap, ◌^◌, arith}
use Rattle.inverse_transforms.specs.Flow.{rotated}
use Rattle.inverse_transforms.proofs.ColumnLemmas.{two_ok, two_err, two_small_after}
use Rattle.inverse_transforms.proofs.Narrows.{narrow_at}
use Rattle.inverse_transforms.proofs.narrow.rotate.Goals as goal

pub rotated_lanes-fit-requires-clause-x : goal.rotated_lanes-fit-requires-clause-x
rotated_lanes-fit-requires-clause-x c = narrow_at c.args.t.now c.args.a c.requires.a c.requires.narrow

pub rotated_lanes-fit-requires-clause-y : goal.rotated_lanes-fit-requires-clause-y
rotated_lanes-fit-requires-clause-y c = narrow_at c.args.t.now c.args.b c.requires.b c.requires.narrow

pub returns-then-not-fit-clause-gives : goal.returns-then-not-fit-clause-gives
returns-then-not-fit-clause-gives c =
    let made = c.rotated_lanes-fit in
    two_err (2 ^ 15) (rotated c.by.result.angle) (rotated c.args.angle) c.args.t.now c.args.a c.args.b made.result.0 made.result.1 made.result.2
    (ap rotated c.by.ensures) c.requires.a c.requires.b made.ensures.made c.if-not-fit.true made.ensures.fit

pub returns-clause-gives : goal.returns-clause-gives
returns-clause-gives c =
    let made = c.rotated_lanes-fit in
    two_ok (2 ^ 15) (rotated c.by.result.angle) (rotated c.args.angle) c.args.t.now c.args.a c.args.b made.result.0 made.result.1 made.result.2
    (ap rotated c.by.ensures) c.requires.a c.requires.b made.ensures.made c.if-not-fit.false made.ensures.fit

pub returns-clause-small : goal.returns-clause-small
returns-clause-small c =
    let made = c.rotated_lanes-fit in
    two_small_after (2 ^ 15) (rotated c.by.result.angle) c.args.t.now c.args.a c.args.b made.result.0 made.result.1 made.result.2
    (omega arith) (search rules) (search rules) made.ensures.made c.if-not-fit.false made.ensures.fit c.requires.small
