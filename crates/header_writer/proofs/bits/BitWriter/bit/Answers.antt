use Rattle.std.proofs.Common.{◌<◌, ◌^◌, sym}
use Rattle.header_writer.proofs.BitsPut.{byte_full, byte_grows}
use Rattle.header_writer.proofs.bits.BitWriter.bit.Goals as goal

pub returns-in_ok-push : goal.returns-in_ok-push
returns-in_ok-push c =
    let fits : c.self.inside.last < 2 ^ 7 = rw c.if-self-eq7.true at c.self.invariant.1 in
    rw (sym c.self.view_is, c.in_ok-push.ensures.items, c.if-self-eq7.true) (byte_full c.self.inside.bytes.items c.self.inside.last c.args.bit fits c.requires)

pub returns-else-self-eq7 : goal.returns-else-self-eq7
returns-else-self-eq7 c =
    rw (sym c.self.view_is) (byte_grows c.self.inside.bytes.items c.self.inside.used c.self.inside.last c.args.bit c.self.invariant.1 c.requires)
