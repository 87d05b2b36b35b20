use Rattle.frame_state.proofs.BlockSteps.{all_have_small, vectors_small}
use Rattle.listed_symbols.proofs.symbols.can_put.Goals as goal

pub can_put_inter-requires-clause-small : goal.can_put_inter-requires-clause-small
can_put_inter-requires-clause-small c = all_have_small _ c.requires.small

pub can_put_inter-requires-clause-small_before : goal.can_put_inter-requires-clause-small_before
can_put_inter-requires-clause-small_before c =
    rw c.as_ref-before.ensures.value (vectors_small c.args.by.now.setting.header c.args.by.now.past.vectors c.requires.past.vectors)
