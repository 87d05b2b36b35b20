use Rattle.tap_filter.proofs.LaneLemmas.{sums_4_small, sums_4_are}
use Rattle.tap_filter.proofs.vectors.pair_sums_of_eight.Goals as goal

pub returns-clause-lanes : goal.returns-clause-lanes
returns-clause-lanes c = sums_4_small c.args.taps c.args.p c.requires.taps c.requires.p

pub returns-clause-value : goal.returns-clause-value
returns-clause-value c = sums_4_are c.args.taps c.args.p c.requires.taps c.requires.p
