use Rattle.std.proofs.Common.{◌≡◌, arith}
use Rattle.header_writer.proofs.BitsPut.{field_begins, field_goes, field_ends}
use Rattle.header_writer.proofs.Spells.{spells_number}
use Rattle.header_writer.proofs.bits.BitWriter.field.Goals as goal

pub loop-left-init : goal.loop-left-init
loop-left-init c = record { within = omega arith; put = field_begins c.args.self.now c.args.width c.args.value }

pub loop-left-preserved : goal.loop-left-preserved
loop-left-preserved c = record {
  within = omega (arith, c.loop-left.invariant.within);
  put = field_goes c.args.self.now c.loop-left.self _ c.args.width c.args.value c.loop-left.left c.loop-left-test.true c.loop-left.invariant.within
      c.requires.fits c.loop-left.invariant.put c.in_ok-bit.ensures;
}

pub returns-clause-puts : goal.returns-clause-puts
returns-clause-puts c =
    let none : c.loop-left.left ≡ 0 = omega (arith, c.loop-left-test.false) in
    field_ends c.args.name c.args.self.now c.loop-left.self c.args.width c.args.value c.requires.fits (rw none at c.loop-left.invariant.put)

pub returns-clause-spells : goal.returns-clause-spells
returns-clause-spells c =
    let none : c.loop-left.left ≡ 0 = omega (arith, c.loop-left-test.false) in
    spells_number c.args.self.now c.loop-left.self c.args.width c.args.value (rw none at c.loop-left.invariant.put)
