use Rattle.std.proofs.Common.{◌≡◌, ◌<◌, arith, ◌∙◌, ap, get_or, length}
use mir.Val.{bool_byte}
use Rattle.bool_decoder.specs.Held.{window_of}
use Rattle.bool_decoder.specs.Window.{bit_of}
use Rattle.bool_decoder.proofs.Literals.{literal_small}
use Rattle.bool_decoder.proofs.OneBool.{bit_number, bit_low}
use Rattle.coef_tokens.proofs.Bits.{bits_go, bits_end, bits_fit}
use Rattle.coef_tokens.proofs.step.read_bits.Goals as goal

pub loop-p-preserved : goal.loop-p-preserved
loop-p-preserved c =
    let p = get_or c.args.probs.now c.loop-p.p-index 0 in
    let is : c.from.result ≡ bit_of p (window_of c.loop-p.decoder) =
    c.from.ensures ∙ ap bool_byte c.bit.ensures.value ∙ bit_number p (window_of c.loop-p.decoder) in
    let low : c.from.result < 2 = rw is (bit_low p (window_of c.loop-p.decoder)) in
    record {
      small = literal_small c.loop-p.p-index c.loop-p.value c.from.result c.loop-p.invariant.small low;
      same = bits_go c.args.probs.now c.loop-p.p-index c.loop-p.value c.from.result _ _ _ c.loop-p-test.true is c.bit.ensures.moves c.loop-p.invariant.same;
    }

pub returns-clause-read : goal.returns-clause-read
returns-clause-read c =
    let all : c.loop-p.p-index ≡ length c.args.probs.now = omega arith in
    bits_end c.args.probs.now c.loop-p.p-index c.loop-p.value _ _ all c.loop-p.invariant.same

pub returns-clause-fits : goal.returns-clause-fits
returns-clause-fits c = bits_fit c.loop-p.p-index c.loop-p.value (length c.args.probs.now) c.requires (omega arith) c.loop-p.invariant.small
