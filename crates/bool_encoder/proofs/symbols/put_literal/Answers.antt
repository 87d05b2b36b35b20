use Rattle.std.proofs.Common.{◌≡◌, arith}
use Rattle.bool_encoder.proofs.Literals.{literal_begins, literal_goes, literal_ends}
use Rattle.bool_encoder.proofs.symbols.put_literal.Goals as goal

pub loop-left-init : goal.loop-left-init
loop-left-init c = record { few = omega arith; put = literal_begins c.args.n c.args.value c.args.encoder.now c.requires.fits }

pub loop-left-preserved : goal.loop-left-preserved
loop-left-preserved c = record {
  few = omega (arith, c.loop-left.invariant.few);
  put = literal_goes c.args.n c.args.value c.loop-left.left c.args.encoder.now c.loop-left.encoder _ c.loop-left-test.true c.loop-left.invariant.put c.in_ok-bit.ensures;
}

pub returns : goal.returns
returns c =
    let none : c.loop-left.left ≡ 0 = omega (arith, c.loop-left-test.false) in
    literal_ends c.args.n c.args.value c.args.encoder.now c.loop-left.encoder (rw none at c.loop-left.invariant.put)
