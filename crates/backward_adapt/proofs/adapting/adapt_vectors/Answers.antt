use Rattle.std.proofs.Common.{refl}
use Rattle.backward_adapt.specs.Adaptation.{adapted_vectors}
use Rattle.backward_adapt.proofs.adapting.adapt_vectors.Goals as goal

pub returns : goal.returns
unfolding adapted_vectors
returns c = λ times tells.
    rw (c.adapt_list.ensures.value times tells, c.adapt_list-2.ensures.value times tells, c.adapt_list-3.ensures.value times tells, c.adapt_list-4.ensures.value times tells, c.adapt_list-5.ensures.value times tells, c.adapt_list-6.ensures.value times tells, c.adapt_list-7.ensures.value times tells, c.adapt_list-8.ensures.value times tells, c.adapt_list-9.ensures.value times tells) refl
