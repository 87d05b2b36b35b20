use Rattle.prob_contexts.proofs.Counting.{counter_is}
use Rattle.prob_contexts.proofs.laws.counters_tell_how_often.Goals as goal

pub returns : goal.returns
returns c = counter_is
