use Rattle.loop_filter.proofs.Following.{rows_follow}
use Rattle.loop_filter.proofs.laws.a_buffer_of_one_row_is_enough.Goals as goal

pub returns-clause-follows : goal.returns-clause-follows
returns-clause-follows c = rows_follow
