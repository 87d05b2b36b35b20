use Rattle.std.proofs.Common.{arith}
use Rattle.planes.proofs.ShortRows.{copied_more}
use Rattle.planes.proofs.copies.copy_short.Goals as goal

pub loop-j-preserved : goal.loop-j-preserved
loop-j-preserved g c =
    copied_more g.P.Sample.value c.loop-j.to c.args.samples.now c.loop-j.j c.index-samples-j.result
    (omega (arith, c.loop-j.auto.to, c.requires.room, c.loop-j-test.true)) (omega (arith, c.requires.long, c.loop-j-test.true)) c.index-samples-j.is c.loop-j.invariant
