use Rattle.std.proofs.Common.{◌∙◌, ap, arith, min}
use Rattle.tap_filter.specs.Code.{at}
use Rattle.tap_filter.proofs.LaneLemmas.{rounded_least}
use Rattle.tap_filter.proofs.sixteen.rounded_lanes.Goals as goal

pub returns-clause-low : goal.returns-clause-low
returns-clause-low c = λ j low. c.least_by_fours.ensures.low j low ∙ ap (min c.args.most) (c.saturated-p.ensures j low) ∙ rounded_least c.args.most (at c.args.low.now j) (omega (arith, c.ranges.most))

pub returns-clause-high : goal.returns-clause-high
returns-clause-high c = λ j low. c.least_by_fours.ensures.high j low ∙ ap (min c.args.most) (c.saturated-q.ensures j low) ∙ rounded_least c.args.most (at c.args.high.now j) (omega (arith, c.ranges.most))
