use Rattle.std.proofs.Common.{rules, arith}
use Rattle.inverse_transforms.specs.Transforms.{adst_quad, adst_of_4}
use Rattle.inverse_transforms.proofs.ColumnLemmas.{FourMade, four_ok, four_err, four_small_after}
use Rattle.inverse_transforms.proofs.lane_steps.adst_of_4.Goals as goal

pub returns-then-not-fit-clause-gives : goal.returns-then-not-fit-clause-gives
unfolding adst_of_4
returns-then-not-fit-clause-gives c =
    let w = c.adst_lanes-fit in
    let made : FourMade c.args.limit (adst_quad c.args.limit) c.args.t.now 0 1 2 3 w.result.0 w.result.1 w.result.2 w.result.3 w.result.4 =
    record { a_low = omega arith; b_low = omega arith; c_low = omega arith; d_low = omega arith; made = w.ensures.made; fit = w.ensures.fit } in
    four_err c.args.limit (adst_quad c.args.limit) c.args.t.now 0 1 2 3
    w.result.0 w.result.1 w.result.2 w.result.3 w.result.4 made c.if-not-fit.true

pub returns-clause-gives : goal.returns-clause-gives
unfolding adst_of_4
returns-clause-gives c =
    let w = c.adst_lanes-fit in
    let made : FourMade c.args.limit (adst_quad c.args.limit) c.args.t.now 0 1 2 3 w.result.0 w.result.1 w.result.2 w.result.3 w.result.4 =
    record { a_low = omega arith; b_low = omega arith; c_low = omega arith; d_low = omega arith; made = w.ensures.made; fit = w.ensures.fit } in
    four_ok c.args.limit (adst_quad c.args.limit) c.args.t.now 0 1 2 3
    w.result.0 w.result.1 w.result.2 w.result.3 w.result.4 made c.if-not-fit.false

pub returns-clause-small : goal.returns-clause-small
returns-clause-small c =
    let w = c.adst_lanes-fit in
    let made : FourMade c.args.limit (adst_quad c.args.limit) c.args.t.now 0 1 2 3 w.result.0 w.result.1 w.result.2 w.result.3 w.result.4 =
    record { a_low = omega arith; b_low = omega arith; c_low = omega arith; d_low = omega arith; made = w.ensures.made; fit = w.ensures.fit } in
    four_small_after c.args.limit (adst_quad c.args.limit) c.args.t.now 0 1 2 3
    w.result.0 w.result.1 w.result.2 w.result.3 w.result.4 c.requires.limit (search rules) (search rules) (search rules) (search rules)
    made c.if-not-fit.false c.requires.small
