use Rattle.prob_contexts.specs.ProbLists.{lists_of}
use Rattle.seq_decoder.proofs.FrameLemmas.{own_adapted}
use Rattle.seq_decoder.proofs.coding.own_contexts.Goals as goal

pub returns : goal.returns
returns c = λ r contexts_are counts_are.
    own_adapted c.args.header.now c.args.after_key c.adapts.result r c.adapt_kind-kind.result c.args.decoded.now.counts (lists_of c.adapt.result) (lists_of c.args.before.now)
    (lists_of c.args.decoded.now.contexts) c.adapts.ensures c.if-not-adapts.false c.adapt_kind-kind.ensures contexts_are counts_are c.adapt.ensures.bools
