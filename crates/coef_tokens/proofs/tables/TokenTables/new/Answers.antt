use Rattle.coef_tokens.proofs.BandRuns.{starts_bands}
use Rattle.coef_tokens.proofs.tables.TokenTables.new.Goals as goal

pub invariant_of-result-clause-bands_start : goal.invariant_of-result-clause-bands_start
invariant_of-result-clause-bands_start c = rw c.bands.ensures.table (starts_bands c.args.at.tx)
