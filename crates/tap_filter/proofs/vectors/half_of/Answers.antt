use Rattle.tap_filter.proofs.LaneLemmas.{half_turned, half_starts}
use Rattle.tap_filter.proofs.vectors.half_of.Goals as goal

pub returns-clause-turned : goal.returns-clause-turned
returns-clause-turned c = half_turned c.args.taps c.requires

pub returns-clause-first : goal.returns-clause-first
returns-clause-first c = (half_starts c.args.taps c.requires.lanes).0

pub returns-clause-second : goal.returns-clause-second
returns-clause-second c = (half_starts c.args.taps c.requires.lanes).1
