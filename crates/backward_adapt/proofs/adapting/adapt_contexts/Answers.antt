use Rattle.std.proofs.Common.{refl}
use Rattle.backward_adapt.specs.Adaptation.{adapted_contexts}
use Rattle.backward_adapt.proofs.adapting.adapt_contexts.Goals as goal

pub returns : goal.returns
unfolding adapted_contexts
returns c = λ times tells.
    rw (c.adapt_tx.ensures times tells, c.adapt_coefs.ensures times tells, c.adapt_list.ensures.value times tells, c.adapt_inter.ensures times tells, c.adapt_list-2.ensures.value times tells, c.adapt_vectors.ensures times tells, c.adapt_list-3.ensures.value times tells) refl
