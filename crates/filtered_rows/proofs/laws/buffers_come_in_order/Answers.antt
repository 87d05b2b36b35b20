use Rattle.filtered_rows.proofs.Held.{none_hold, one_more_holds}
use Rattle.filtered_rows.proofs.laws.buffers_come_in_order.Goals as goal

pub returns-clause-none : goal.returns-clause-none
returns-clause-none g c = none_hold

pub returns-clause-more : goal.returns-clause-more
returns-clause-more g c = one_more_holds
