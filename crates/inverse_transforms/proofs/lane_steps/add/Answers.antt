use Rattle.std.proofs.Common.{rules, refl}
use Rattle.inverse_transforms.specs.Flow.{sum_and_difference}
use Rattle.inverse_transforms.proofs.ColumnLemmas.{two_ok, two_small_after}
use Rattle.inverse_transforms.proofs.lane_steps.add.Goals as goal

pub returns-clause-gives : goal.returns-clause-gives
returns-clause-gives c =
    let made = c.added_lanes-fit in
    two_ok c.args.limit sum_and_difference sum_and_difference c.args.t.now c.args.a c.args.b made.result.0 made.result.1 made.result.2
    refl c.requires.a c.requires.b made.ensures.made c.if-not-fit.false made.ensures.fit

pub returns-clause-small : goal.returns-clause-small
returns-clause-small c =
    let made = c.added_lanes-fit in
    two_small_after c.args.limit sum_and_difference c.args.t.now c.args.a c.args.b made.result.0 made.result.1 made.result.2
    c.requires.limit (search rules) (search rules) made.ensures.made c.if-not-fit.false made.ensures.fit c.requires.small
