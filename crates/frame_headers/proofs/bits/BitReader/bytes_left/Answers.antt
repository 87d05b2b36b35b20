use Rattle.std.proofs.Common.{◌<◌, arith}
use Rattle.frame_headers.proofs.BitLemmas.{whole_bytes, one_begun}
use Rattle.frame_headers.proofs.bits.BitReader.bytes_left.Goals as goal

pub returns-then-self-eq0 : goal.returns-then-self-eq0
returns-then-self-eq0 c = whole_bytes c.self.inside.rest.now c.args.self.now c.self.inside.used c.self.view_is c.if-self-eq0.true

pub returns-else-self-eq0 : goal.returns-else-self-eq0
returns-else-self-eq0 c =
    let begun : 0 < c.self.inside.used = omega arith in
    one_begun c.self.inside.rest.now c.args.self.now c.self.inside.used c.self.view_is c.if-self-eq0.false c.self.invariant.0 (c.self.invariant.1 begun)
