use Rattle.std.proofs.Common.{◌∙◌, sym}
use Rattle.seq_decoder.proofs.PastLemmas.{vectors_are}
use Rattle.seq_decoder.proofs.past.vectors_before.Goals as goal

pub returns-in-Some-clause-are : goal.returns-in-Some-clause-are
returns-in-Some-clause-are c =
    vectors_are c.args.header.now c.in-Some.last c.new.result (sym c.takes_vectors.ensures ∙ c.if-takes_vectors.true) c.new.ensures.header (c.new.ensures.columns ∙ c.deref.ensures.value)
