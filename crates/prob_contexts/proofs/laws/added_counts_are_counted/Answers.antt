use Rattle.prob_contexts.proofs.Joining.{added, parts_joined}
use Rattle.prob_contexts.proofs.laws.added_counts_are_counted.Goals as goal

pub returns-clause-parts : goal.returns-clause-parts
returns-clause-parts c = parts_joined

pub returns-clause-more : goal.returns-clause-more
returns-clause-more c = added
