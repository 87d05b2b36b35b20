use Rattle.prob_contexts.proofs.Counting.{none_stand, one_more, all_more}
use Rattle.prob_contexts.proofs.Joining.{both_stand}
use Rattle.prob_contexts.proofs.laws.counts_stand_for_their_bools.Goals as goal

pub returns-clause-none : goal.returns-clause-none
returns-clause-none c = none_stand

pub returns-clause-one_more : goal.returns-clause-one_more
returns-clause-one_more c = one_more

pub returns-clause-all : goal.returns-clause-all
returns-clause-all c = all_more

pub returns-clause-joined : goal.returns-clause-joined
returns-clause-joined c = both_stand
