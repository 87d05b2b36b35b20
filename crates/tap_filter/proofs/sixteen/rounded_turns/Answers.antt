use Rattle.std.proofs.Common.{◌∙◌, ap, arith, min}
use Rattle.tap_filter.specs.Code.{at}
use Rattle.tap_filter.proofs.LaneLemmas.{rounded_least}
use Rattle.tap_filter.proofs.sixteen.rounded_turns.Goals as goal

pub returns-clause-even : goal.returns-clause-even
returns-clause-even c = λ j low. c.least_by_turns.ensures.even j low ∙ ap (min c.args.most) (c.saturated-p.ensures j low) ∙ rounded_least c.args.most (at c.args.even.now j) (omega (arith, c.ranges.most))

pub returns-clause-odd : goal.returns-clause-odd
returns-clause-odd c = λ j low. c.least_by_turns.ensures.odd j low ∙ ap (min c.args.most) (c.saturated-q.ensures j low) ∙ rounded_least c.args.most (at c.args.odd.now j) (omega (arith, c.ranges.most))
