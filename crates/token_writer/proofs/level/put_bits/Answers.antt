use Rattle.std.proofs.Common.{arith}
use Rattle.token_writer.proofs.Bits.{bits_begin, bits_go, bits_end}
use Rattle.token_writer.proofs.level.put_bits.Goals as goal

pub loop-i-init : goal.loop-i-init
loop-i-init c = bits_begin c.args.probs.now c.args.value c.args.encoder.now c.requires.fits

pub loop-i-preserved : goal.loop-i-preserved
loop-i-preserved c =
    bits_go c.args.probs.now c.args.value c.loop-i.i c.args.encoder.now c.loop-i.encoder _ c.loop-i-test.true (omega arith) c.loop-i.invariant c.in_ok-bit.ensures

pub returns : goal.returns
returns c = bits_end c.args.probs.now c.args.value c.loop-i.i c.args.encoder.now c.loop-i.encoder c.loop-i-test.false c.loop-i.invariant
