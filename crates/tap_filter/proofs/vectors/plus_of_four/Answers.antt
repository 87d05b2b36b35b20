use Rattle.tap_filter.proofs.LaneLemmas.{added_is, added_lanes}
use Rattle.tap_filter.proofs.vectors.plus_of_four.Goals as goal

pub returns-clause-lanes : goal.returns-clause-lanes
returns-clause-lanes g c = added_lanes c.args.a c.args.b g.row.MOST c.requires.few c.requires.a c.requires.b

pub returns-clause-value : goal.returns-clause-value
returns-clause-value g c = added_is c.args.a c.args.b g.row.MOST c.requires.few c.requires.a c.requires.b
