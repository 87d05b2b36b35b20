use Rattle.backward_adapt.proofs.lists.FrameCounts.adapt_list.Goals as goal

pub returns-clause-value : goal.returns-clause-value
returns-clause-value c = c.adapt_from.ensures.value
