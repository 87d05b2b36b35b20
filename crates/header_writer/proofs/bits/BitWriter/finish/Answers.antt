use Rattle.std.proofs.Common.{◌-◌, ◌<◌, arith, sym}
use Rattle.header_writer.proofs.BitsPut.{none_left, last_byte, last_whole}
use Rattle.header_writer.proofs.bits.BitWriter.finish.Goals as goal

pub returns-then-used-eq0 : goal.returns-then-used-eq0
returns-then-used-eq0 c = (0, omega arith, rw (sym c.self.view_is) (none_left c.self.inside.bytes.items c.self.inside.used c.self.inside.last c.if-used-eq0.true))

pub returns : goal.returns
returns c =
    let some : 0 < c.self.inside.used = omega (arith, c.if-used-eq0.false) in
    let whole = last_whole c.self.inside.used c.self.inside.last c.self.invariant.0 c.self.invariant.1 in (
      8 - c.self.inside.used,
      omega arith,
      rw (sym c.self.view_is, c.in_ok-push.ensures.items, whole)
          (last_byte c.self.inside.bytes.items c.self.inside.used c.self.inside.last some c.self.invariant.0 c.self.invariant.1),
    )
