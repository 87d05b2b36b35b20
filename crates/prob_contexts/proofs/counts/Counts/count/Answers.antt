use Rattle.std.proofs.Common.{refl}
use Rattle.std.proofs.lemmas.Bool.{lt-ltb}
use Rattle.prob_contexts.specs.Kinds.{kind_size}
use Rattle.prob_contexts.specs.Code.{with_bool}
use Rattle.prob_contexts.proofs.counts.Counts.count.Goals as goal

pub returns : goal.returns
unfolding with_bool
returns c =
    rw (lt-ltb c.args.place (kind_size c.args.kind) c.requires, c.saturating_add.ensures, c.counter_at-at.ensures.value, c.deref_mut-counters.ensures.value, c.self.view_is) refl
