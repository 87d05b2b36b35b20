use Rattle.tap_filter.proofs.LaneLemmas.{turns_even, turns_odd}
use Rattle.tap_filter.proofs.vectors.least_by_turns.Goals as goal

pub returns-clause-even : goal.returns-clause-even
returns-clause-even c = turns_even c.args.most c.args.even.now c.args.odd.now c.told-even

pub returns-clause-odd : goal.returns-clause-odd
returns-clause-odd c = turns_odd c.args.most c.args.even.now c.args.odd.now c.told-even
