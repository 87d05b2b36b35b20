use Rattle.prob_contexts.specs.ProbLists.{vector_lists}
use Rattle.mv_syntax.specs.Components.{next_bit}
use Rattle.vector_writer.proofs.Bits.{BitsLeft}
use Rattle.vector_writer.proofs.components.put_bits.Given as goal

abbrev pub invariant-loop-i : goal.invariant-loop-i
invariant-loop-i l = BitsLeft (next_bit (vector_lists l.probs) l.c) l.n l.bits l.i l.fn.encoder l.encoder
