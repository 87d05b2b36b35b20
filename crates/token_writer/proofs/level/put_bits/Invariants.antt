use Rattle.token_writer.proofs.Bits.{BitsLeft}
use Rattle.token_writer.proofs.level.put_bits.Given as goal

abbrev pub invariant-loop-i : goal.invariant-loop-i
invariant-loop-i l = BitsLeft l.probs l.value l.i l.fn.encoder l.encoder
