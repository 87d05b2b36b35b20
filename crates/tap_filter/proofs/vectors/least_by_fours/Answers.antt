use Rattle.tap_filter.proofs.LaneLemmas.{fours_low, fours_high}
use Rattle.tap_filter.proofs.vectors.least_by_fours.Goals as goal

pub returns-clause-low : goal.returns-clause-low
returns-clause-low c = fours_low c.args.most c.args.low.now c.args.high.now c.told-low

pub returns-clause-high : goal.returns-clause-high
returns-clause-high c = fours_high c.args.most c.args.low.now c.args.high.now c.told-low
