use Rattle.std.proofs.Common.{rules, ap}
use Rattle.inverse_transforms.specs.Flow.{rotated}
use Rattle.inverse_transforms.proofs.ColumnLemmas.{two_ok, two_small_after}
use Rattle.inverse_transforms.proofs.lane_steps.rotate.Goals as goal

pub returns-clause-gives : goal.returns-clause-gives
returns-clause-gives c =
    let made = c.rotated_lanes-fit in
    two_ok c.args.limit (rotated c.by.result.angle) (rotated c.args.angle) c.args.t.now c.args.a c.args.b made.result.0 made.result.1 made.result.2
    (ap rotated c.by.ensures) c.requires.a c.requires.b made.ensures.made c.if-not-fit.false made.ensures.fit

pub returns-clause-small : goal.returns-clause-small
returns-clause-small c =
    let made = c.rotated_lanes-fit in
    two_small_after c.args.limit (rotated c.by.result.angle) c.args.t.now c.args.a c.args.b made.result.0 made.result.1 made.result.2
    c.requires.limit (search rules) (search rules) made.ensures.made c.if-not-fit.false made.ensures.fit c.requires.small
