use Rattle.std.proofs.Common.{arith}
use Rattle.prob_contexts.specs.ProbLists.{vector_lists}
use Rattle.mv_syntax.specs.Components.{next_bit}
use Rattle.vector_writer.proofs.Bits.{bits_begin, bits_go, bits_end}
use Rattle.vector_writer.proofs.components.put_bits.Goals as goal

pub loop-i-init : goal.loop-i-init
loop-i-init c = bits_begin (next_bit (vector_lists c.args.probs.now) c.args.c) c.args.n c.args.bits c.args.encoder.now

pub loop-i-preserved : goal.loop-i-preserved
loop-i-preserved c =
    bits_go (next_bit (vector_lists c.args.probs.now) c.args.c) c.args.n c.args.bits c.loop-i.i c.args.encoder.now c.loop-i.encoder _ c.loop-i-test.true c.loop-i.invariant
    (c.in_ok-put_next_bit.ensures _)

pub returns : goal.returns
returns c =
    bits_end (next_bit (vector_lists c.args.probs.now) c.args.c) c.args.n c.args.bits c.loop-i.i c.args.encoder.now c.loop-i.encoder c.requires.few c.loop-i-test.false (omega arith) c.loop-i.invariant
