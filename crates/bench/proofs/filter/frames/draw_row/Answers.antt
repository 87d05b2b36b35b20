use Rattle.std.proofs.Common.{◌≤◌, ◌∙◌, arith, length-set}
use Rattle.bench.proofs.Draws.{one_drawn}
use Rattle.bench.proofs.filter.frames.draw_row.Goals as goal

pub loop-x-preserved : goal.loop-x-preserved
loop-x-preserved g c = let i = c.loop-x.invariant in
    let small : g.P.Sample.value c.narrow.result ≤ 255 = omega (arith, c.narrow.ensures, c.min.ensures) in
    record {
      long = length-set _ _ _ ∙ i.long;
      small = one_drawn g.P.Sample.value c.loop-x.line c.loop-x.x 255 c.narrow.result (omega (arith, i.long, c.loop-x-test.true, c.loop-x.auto.x-end)) small i.small;
    }
