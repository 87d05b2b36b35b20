use Rattle.std.proofs.Common.{refl}
use Rattle.backward_adapt.specs.Adaptation.{adapted_coefs}
use Rattle.backward_adapt.proofs.adapting.adapt_coefs.Goals as goal

pub returns : goal.returns
unfolding adapted_coefs
returns c = λ times tells.
    rw (c.adapt_from.ensures.value times tells, c.adapt_from-2.ensures.value times tells, c.adapt_from-3.ensures.value times tells, c.adapt_from-4.ensures.value times tells) refl
