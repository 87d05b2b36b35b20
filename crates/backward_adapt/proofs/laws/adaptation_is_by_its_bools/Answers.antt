use Rattle.std.proofs.Common.{◌++◌, ◌∙◌, ap}
use Rattle.prob_contexts.specs.Code.{counter_of}
use Rattle.prob_contexts.proofs.Joining.{parts_joined}
use Rattle.backward_adapt.specs.Adaptation.{adapted_contexts}
use Rattle.backward_adapt.proofs.Agreeing.{few_counted, by_counters}
use Rattle.backward_adapt.proofs.laws.adaptation_is_by_its_bools.Goals as goal

pub returns-clause-times : goal.returns-clause-times
returns-clause-times c = few_counted

pub returns-clause-parts : goal.returns-clause-parts
returns-clause-parts c = λ frame bools more saved forward coef sizes.
    ap (λ counts. adapted_contexts frame (counter_of counts) saved forward) (parts_joined bools more) ∙ by_counters frame (bools ++ more) saved forward coef sizes
