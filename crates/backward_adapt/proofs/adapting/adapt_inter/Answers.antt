use Rattle.std.proofs.Common.{refl}
use Rattle.backward_adapt.specs.Adaptation.{adapted_inter}
use Rattle.backward_adapt.proofs.adapting.adapt_inter.Goals as goal

pub returns : goal.returns
unfolding adapted_inter
returns c = λ times tells.
    rw (c.adapt_list.ensures.value times tells, c.adapt_list-2.ensures.value times tells, c.adapt_list-3.ensures.value times tells, c.adapt_list-4.ensures.value times tells, c.adapt_list-5.ensures.value times tells, c.adapt_list-6.ensures.value times tells, c.adapt_list-7.ensures.value times tells) refl
