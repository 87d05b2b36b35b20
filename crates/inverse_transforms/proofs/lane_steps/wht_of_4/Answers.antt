use Rattle.std.proofs.Common.{rules, arith}
use Rattle.inverse_transforms.specs.Transforms.{wht_quad, wht}
use Rattle.inverse_transforms.proofs.ColumnLemmas.{FourMade, four_ok, four_err, four_small_after}
use Rattle.inverse_transforms.proofs.lane_steps.wht_of_4.Goals as goal

pub returns-then-not-fit-clause-gives : goal.returns-then-not-fit-clause-gives
unfolding wht
returns-then-not-fit-clause-gives c =
    let w = c.wht_lanes-fit in
    let made : FourMade c.args.limit (wht_quad c.args.shift) c.args.t.now 0 1 2 3 w.result.0 w.result.1 w.result.2 w.result.3 w.result.4 =
    record { a_low = omega arith; b_low = omega arith; c_low = omega arith; d_low = omega arith; made = w.ensures.made; fit = w.ensures.fit } in
    four_err c.args.limit (wht_quad c.args.shift) c.args.t.now 0 1 2 3
    w.result.0 w.result.1 w.result.2 w.result.3 w.result.4 made c.if-not-fit.true

pub returns-clause-gives : goal.returns-clause-gives
unfolding wht
returns-clause-gives c =
    let w = c.wht_lanes-fit in
    let made : FourMade c.args.limit (wht_quad c.args.shift) c.args.t.now 0 1 2 3 w.result.0 w.result.1 w.result.2 w.result.3 w.result.4 =
    record { a_low = omega arith; b_low = omega arith; c_low = omega arith; d_low = omega arith; made = w.ensures.made; fit = w.ensures.fit } in
    four_ok c.args.limit (wht_quad c.args.shift) c.args.t.now 0 1 2 3
    w.result.0 w.result.1 w.result.2 w.result.3 w.result.4 made c.if-not-fit.false

pub returns-clause-small : goal.returns-clause-small
returns-clause-small c =
    let w = c.wht_lanes-fit in
    let made : FourMade c.args.limit (wht_quad c.args.shift) c.args.t.now 0 1 2 3 w.result.0 w.result.1 w.result.2 w.result.3 w.result.4 =
    record { a_low = omega arith; b_low = omega arith; c_low = omega arith; d_low = omega arith; made = w.ensures.made; fit = w.ensures.fit } in
    four_small_after c.args.limit (wht_quad c.args.shift) c.args.t.now 0 1 2 3
    w.result.0 w.result.1 w.result.2 w.result.3 w.result.4 c.requires.limit (search rules) (search rules) (search rules) (search rules)
    made c.if-not-fit.false c.requires.small
