use Rattle.filter_rows.proofs.Bands.{bands_are_rows, band_is_whole, final_rows_held}
use Rattle.filter_rows.proofs.laws.bands_become_final.Goals as goal

pub returns-clause-rows : goal.returns-clause-rows
returns-clause-rows c = bands_are_rows

pub returns-clause-whole : goal.returns-clause-whole
returns-clause-whole c = band_is_whole

pub returns-clause-held : goal.returns-clause-held
returns-clause-held c = final_rows_held
