use Rattle.std.proofs.Common.{◌≤◌, arith}
use Rattle.bench.proofs.Draws.{one_drawn}
use Rattle.bench.proofs.intra.draw.Goals as goal

pub loop-k-preserved : goal.loop-k-preserved
loop-k-preserved g c =
    let small : g.P.Sample.value c.narrow.result ≤ 255 = omega (arith, c.narrow.ensures, c.drawn-state.type_inv) in
    one_drawn g.P.Sample.value c.loop-k.samples c.loop-k.k 255 c.narrow.result (omega arith) small c.loop-k.invariant
