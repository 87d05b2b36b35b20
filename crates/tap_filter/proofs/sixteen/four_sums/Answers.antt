use Rattle.std.proofs.Common.{arith, ◌^◌}
use Rattle.tap_filter.proofs.LaneLemmas.{sums_again, four_value}
use Rattle.tap_filter.proofs.sixteen.four_sums.Goals as goal

pub plus-first-requires-clause-a : goal.plus-first-requires-clause-a
plus-first-requires-clause-a c = sums_again c.args.p (2 ^ 20) (omega arith) c.requires.p

pub plus-first-requires-clause-b : goal.plus-first-requires-clause-b
plus-first-requires-clause-b c = sums_again c.args.q (2 ^ 20) (omega arith) c.requires.q

pub plus-second-requires-clause-a : goal.plus-second-requires-clause-a
plus-second-requires-clause-a c = sums_again c.args.r (2 ^ 20) (omega arith) c.requires.r

pub plus-second-requires-clause-b : goal.plus-second-requires-clause-b
plus-second-requires-clause-b c = sums_again c.args.s (2 ^ 20) (omega arith) c.requires.s

pub plus-requires-clause-a : goal.plus-requires-clause-a
plus-requires-clause-a c = sums_again c.plus-first.result (2 ^ 21) (omega arith) c.plus-first.ensures.lanes

pub plus-requires-clause-b : goal.plus-requires-clause-b
plus-requires-clause-b c = sums_again c.plus-second.result (2 ^ 21) (omega arith) c.plus-second.ensures.lanes

pub returns-clause-lanes : goal.returns-clause-lanes
returns-clause-lanes c = sums_again c.plus.result (2 ^ 22) (omega arith) c.plus.ensures.lanes

pub returns-clause-value : goal.returns-clause-value
returns-clause-value c = λ j low. let a = c.args in let r = c.requires in
    four_value a.p a.q a.r a.s c.plus-first.result c.plus-second.result c.plus.result j r.p r.q r.r r.s c.plus-first.ensures.lanes c.plus-second.ensures.lanes c.plus.ensures.lanes
    (c.plus-first.ensures.value j low) (c.plus-second.ensures.value j low) (c.plus.ensures.value j low)
