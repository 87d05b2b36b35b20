use Rattle.std.proofs.Common.{sym}
use Rattle.backward_adapt.specs.Adaptation.{rate_of, adapted_from}
use Rattle.backward_adapt.proofs.Steps.{merged_in_order, all_kept}
use Rattle.backward_adapt.proofs.laws.a_list_is_adapted_in_order.Goals as goal

pub returns-clause-merged : goal.returns-clause-merged
unfolding adapted_from
returns-clause-merged c = λ frame times kind place saved forward rate is. merged_in_order (rate_of frame kind) rate times kind place saved forward is

pub returns-clause-kept : goal.returns-clause-kept
unfolding adapted_from
returns-clause-kept c = λ frame times kind place saved forward none same. sym (all_kept (rate_of frame kind) times kind place saved forward none same)
