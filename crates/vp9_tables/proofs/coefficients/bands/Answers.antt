use Rattle.vp9_tables.proofs.Ranges.{bands_within, bands_enough}
use Rattle.vp9_tables.proofs.coefficients.bands.Goals as goal

pub returns-clause-count : goal.returns-clause-count
returns-clause-count c = rw c.bands_table.ensures (bands_enough c.args.size)

pub returns-clause-within : goal.returns-clause-within
returns-clause-within c = rw c.bands_table.ensures (bands_within c.args.size)
