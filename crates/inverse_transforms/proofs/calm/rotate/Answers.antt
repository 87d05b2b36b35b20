use Rattle.std.proofs.Common.{rules, refl, true, ap, ◌^◌, arith}
use Rattle.inverse_transforms.specs.Flow.{rotated}
use Rattle.inverse_transforms.proofs.ColumnLemmas.{two_ok, two_hold, two_small_after}
use Rattle.inverse_transforms.proofs.Narrows.{narrow_at}
use Rattle.inverse_transforms.proofs.calm.rotate.Goals as goal

pub rotated_lanes-requires-clause-x : goal.rotated_lanes-requires-clause-x
rotated_lanes-requires-clause-x c = narrow_at c.args.t.now c.args.a c.requires.a c.requires.narrow

pub rotated_lanes-requires-clause-y : goal.rotated_lanes-requires-clause-y
rotated_lanes-requires-clause-y c = narrow_at c.args.t.now c.args.b c.requires.b c.requires.narrow

pub returns-clause-gives : goal.returns-clause-gives
returns-clause-gives c =
    let made = c.rotated_lanes in
    two_ok (2 ^ 15) (rotated c.by.result.angle) (rotated c.args.angle) c.args.t.now c.args.a c.args.b made.result.0 made.result.1 true
    (ap rotated c.by.ensures) c.requires.a c.requires.b made.ensures.made refl
    (two_hold (2 ^ 15) (rotated c.by.result.angle) (rotated c.args.angle) c.args.t.now c.args.a c.args.b (ap rotated c.by.ensures) c.requires.a c.requires.b c.requires.fit)

pub returns-clause-small : goal.returns-clause-small
returns-clause-small c =
    let made = c.rotated_lanes in
    two_small_after (2 ^ 15) (rotated c.by.result.angle) c.args.t.now c.args.a c.args.b made.result.0 made.result.1 true
    (omega arith) (search rules) (search rules) made.ensures.made refl
    (two_hold (2 ^ 15) (rotated c.by.result.angle) (rotated c.args.angle) c.args.t.now c.args.a c.args.b (ap rotated c.by.ensures) c.requires.a c.requires.b c.requires.fit) c.requires.small
