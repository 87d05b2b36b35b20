use Rattle.tap_filter.proofs.LaneLemmas.{load_is, load_lanes, load_asks}
use Rattle.tap_filter.proofs.vectors.load.Goals as goal

pub overflow_cast-result : goal.overflow_cast-result
overflow_cast-result c = load_asks 16 c.args.samples.now c.args.place c.requires.small c.requires.room

pub returns-clause-lanes : goal.returns-clause-lanes
returns-clause-lanes c = load_lanes 16 c.args.samples.now c.args.place c.requires.small c.requires.room

pub returns-clause-value : goal.returns-clause-value
returns-clause-value c = load_is 16 c.args.samples.now c.args.place c.requires.small c.requires.room
