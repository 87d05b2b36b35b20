use Rattle.std.proofs.Common.{refl}
use Rattle.prob_contexts.specs.Code.{counter_of}
use Rattle.prob_contexts.specs.Counted.{times_counted}
use Rattle.prob_contexts.proofs.Counting.{counter_is}
use Rattle.backward_adapt.proofs.adapting.adapt.Goals as goal

pub returns-clause-bools : goal.returns-clause-bools
returns-clause-bools c = λ bools is. c.adapt_contexts.ensures (times_counted bools) (λ b low. rw is (counter_is bools b low))

pub returns-clause-counters : goal.returns-clause-counters
returns-clause-counters c = c.adapt_contexts.ensures (counter_of c.args.counts.now) (λ b low. refl)
