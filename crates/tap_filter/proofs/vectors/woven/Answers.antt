use Rattle.std.proofs.Common.{◌≡◌, ℕ, ◌+◌, arith, ap, ◌∙◌}
use Rattle.tap_filter.specs.Code.{at, low_lane}
use Rattle.tap_filter.proofs.LaneLemmas.{fours_even, fours_odd, fours_small}
use Rattle.tap_filter.proofs.vectors.woven.Goals as goal

pub returns-clause-first : goal.returns-clause-first
returns-clause-first c = fours_small c.args.p c.args.q 0 c.requires.p c.requires.q (omega arith)

pub returns-clause-second : goal.returns-clause-second
returns-clause-second c = fours_small c.args.p c.args.q 4 c.requires.p c.requires.q (omega arith)

start : (j : ℕ) → 0 + j ≡ j
start j = omega arith

pub returns-clause-first_even : goal.returns-clause-first_even
returns-clause-first_even c = λ j low. fours_even c.args.p c.args.q 0 c.requires.p (omega arith) j low ∙ ap (at c.args.p) (start (low_lane j))

pub returns-clause-first_odd : goal.returns-clause-first_odd
returns-clause-first_odd c = λ j low. fours_odd c.args.p c.args.q 0 c.requires.p c.requires.q (omega arith) j low ∙ ap (at c.args.q) (start (low_lane j))

pub returns-clause-second_even : goal.returns-clause-second_even
returns-clause-second_even c = fours_even c.args.p c.args.q 4 c.requires.p (omega arith)

pub returns-clause-second_odd : goal.returns-clause-second_odd
returns-clause-second_odd c = fours_odd c.args.p c.args.q 4 c.requires.p c.requires.q (omega arith)
