use Rattle.frame_state.proofs.PlanReads.{reads_columns, broken_first}
use Rattle.frame_state.proofs.Verdicts.{least_is}
use Rattle.frame_state.proofs.laws.frames_are_read_by_columns.Goals as goal

pub returns-clause-read : goal.returns-clause-read
returns-clause-read c = reads_columns

pub returns-clause-broken : goal.returns-clause-broken
returns-clause-broken c = broken_first

pub returns-clause-verdict : goal.returns-clause-verdict
returns-clause-verdict c = least_is
