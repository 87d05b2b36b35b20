use Rattle.filtered_rows.proofs.Finals.{becomes_final_with, filtered_is_final}
use Rattle.filtered_rows.proofs.laws.final_rows_are_held.Goals as goal

pub returns-clause-becomes : goal.returns-clause-becomes
returns-clause-becomes g c = becomes_final_with

pub returns-clause-filtered : goal.returns-clause-filtered
returns-clause-filtered g c = filtered_is_final
