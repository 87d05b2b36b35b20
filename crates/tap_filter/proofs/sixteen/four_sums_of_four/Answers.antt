use Rattle.std.proofs.Common.{arith, ◌^◌}
use Rattle.tap_filter.proofs.LaneLemmas.{sums_again, four_value}
use Rattle.tap_filter.proofs.sixteen.four_sums_of_four.Goals as goal

pub plus_of_four-first-requires-clause-a : goal.plus_of_four-first-requires-clause-a
plus_of_four-first-requires-clause-a c = sums_again c.args.p (2 ^ 20) (omega arith) c.requires.p

pub plus_of_four-first-requires-clause-b : goal.plus_of_four-first-requires-clause-b
plus_of_four-first-requires-clause-b c = sums_again c.args.q (2 ^ 20) (omega arith) c.requires.q

pub plus_of_four-second-requires-clause-a : goal.plus_of_four-second-requires-clause-a
plus_of_four-second-requires-clause-a c = sums_again c.args.r (2 ^ 20) (omega arith) c.requires.r

pub plus_of_four-second-requires-clause-b : goal.plus_of_four-second-requires-clause-b
plus_of_four-second-requires-clause-b c = sums_again c.args.s (2 ^ 20) (omega arith) c.requires.s

pub plus_of_four-requires-clause-a : goal.plus_of_four-requires-clause-a
plus_of_four-requires-clause-a c = sums_again c.plus_of_four-first.result (2 ^ 21) (omega arith) c.plus_of_four-first.ensures.lanes

pub plus_of_four-requires-clause-b : goal.plus_of_four-requires-clause-b
plus_of_four-requires-clause-b c = sums_again c.plus_of_four-second.result (2 ^ 21) (omega arith) c.plus_of_four-second.ensures.lanes

pub returns-clause-lanes : goal.returns-clause-lanes
returns-clause-lanes c = sums_again c.plus_of_four.result (2 ^ 22) (omega arith) c.plus_of_four.ensures.lanes

pub returns-clause-value : goal.returns-clause-value
returns-clause-value c = λ j low. let a = c.args in let r = c.requires in
    four_value a.p a.q a.r a.s c.plus_of_four-first.result c.plus_of_four-second.result c.plus_of_four.result j r.p r.q r.r r.s c.plus_of_four-first.ensures.lanes c.plus_of_four-second.ensures.lanes c.plus_of_four.ensures.lanes
    (c.plus_of_four-first.ensures.value j low) (c.plus_of_four-second.ensures.value j low) (c.plus_of_four.ensures.value j low)
