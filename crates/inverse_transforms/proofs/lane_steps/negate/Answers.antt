use Rattle.std.proofs.Common.{rules, neg_ℤ}
use Rattle.inverse_transforms.proofs.ColumnLemmas.{one_ok, one_small_after}
use Rattle.inverse_transforms.proofs.lane_steps.negate.Goals as goal

pub returns-clause-gives : goal.returns-clause-gives
returns-clause-gives c =
    let made = c.negated_lanes-fit in
    one_ok c.args.limit neg_ℤ c.args.t.now c.args.a made.result.0 made.result.1 c.requires.a made.ensures.made c.if-not-fit.false made.ensures.fit

pub returns-clause-small : goal.returns-clause-small
returns-clause-small c =
    let made = c.negated_lanes-fit in
    one_small_after c.args.limit neg_ℤ c.args.t.now c.args.a made.result.0 made.result.1
    c.requires.limit (search rules) made.ensures.made c.if-not-fit.false made.ensures.fit c.requires.small
