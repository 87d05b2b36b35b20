use Rattle.std.proofs.Common.{refl}
use Rattle.backward_adapt.specs.Adaptation.{adapted_tx}
use Rattle.backward_adapt.proofs.adapting.adapt_tx.Goals as goal

pub returns : goal.returns
unfolding adapted_tx
returns c = λ times tells.
    rw (c.adapt_list.ensures.value times tells, c.adapt_list-2.ensures.value times tells, c.adapt_list-3.ensures.value times tells) refl
