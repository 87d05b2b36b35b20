use Rattle.column_plan.proofs.RowStarts.{row_between, row_found, rows_lie}
use Rattle.column_plan.proofs.laws.rows_lie_between_their_places.Goals as goal

pub returns-clause-blocks : goal.returns-clause-blocks
returns-clause-blocks c = row_between

pub returns-clause-planned : goal.returns-clause-planned
returns-clause-planned c = λ shape tile_from r blocks pieces order. (rows_lie shape tile_from r blocks pieces order).1

pub returns-clause-noted : goal.returns-clause-noted
returns-clause-noted c = row_found
