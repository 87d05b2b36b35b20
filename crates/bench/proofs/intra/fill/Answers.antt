use Rattle.std.proofs.Common.{map}
use Rattle.vp9_types.specs.Maps.{rows_of}
use Rattle.planes.specs.Planes.{plane_map}
use Rattle.planes.proofs.PlaneLemmas.{with_block_small, rows_small}
use Rattle.bench.proofs.intra.fill.Goals as goal

pub returns-clause-small : goal.returns-clause-small
returns-clause-small g c = let a = c.args in
    rw c.put_block.ensures.map (with_block_small 255 (plane_map a.plane.now) 0 0 _ _ (rows_of 1920 (map g.P.Sample.value c.draw.new.samples))
    c.requires.small (rows_small 255 1920 (map g.P.Sample.value c.draw.new.samples) c.draw.ensures.small))
