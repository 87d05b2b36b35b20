use Rattle.filtered_rows.proofs.Held.{rows_have_bands, all_rows_held}
use Rattle.filtered_rows.proofs.laws.rows_have_bands.Goals as goal

pub returns-clause-bands : goal.returns-clause-bands
returns-clause-bands c = rows_have_bands

pub returns-clause-all : goal.returns-clause-all
returns-clause-all c = all_rows_held
