use Rattle.std.proofs.Common.{◌≡◌, ◌<◌, arith, ◌∙◌, ap}
use mir.Val.{bool_byte}
use Rattle.bool_decoder.specs.Held.{window_of}
use Rattle.bool_decoder.specs.Window.{bit_of}
use Rattle.bool_decoder.proofs.Literals.{literal_begins, literal_goes, literal_ends, literal_small}
use Rattle.bool_decoder.proofs.OneBool.{bit_number, bit_low}
use Rattle.bool_decoder.proofs.decoder.BoolDecoder.literal.Goals as goal

pub loop-init : goal.loop-init
loop-init c = record { small = omega arith; same = literal_begins c.args.n (window_of c.args.self.now) }

pub loop-preserved : goal.loop-preserved
loop-preserved c =
    let is : c.from.result ≡ bit_of 128 (window_of c.loop.decoder) =
    c.from.ensures ∙ ap bool_byte c.bit.ensures.value ∙ bit_number 128 (window_of c.loop.decoder) in
    let low : c.from.result < 2 = rw is (bit_low 128 (window_of c.loop.decoder)) in
    record {
      small = literal_small c.loop.counter c.loop.value c.from.result c.loop.invariant.small low;
      same = literal_goes c.args.n c.loop.counter c.loop.value c.from.result _ _ _ c.loop-test.true is c.bit.ensures.moves c.loop.invariant.same;
    }

pub returns-clause-read : goal.returns-clause-read
returns-clause-read c =
    literal_ends c.args.n c.loop.counter c.loop.value (window_of c.loop.decoder) (window_of c.args.self.now) (omega arith) c.loop.invariant.same
