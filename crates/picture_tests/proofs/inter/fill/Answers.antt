use Rattle.std.proofs.Common.{map}
use Rattle.vp9_types.specs.Maps.{rows_of}
use Rattle.planes.specs.Planes.{plane_map}
use Rattle.planes.proofs.PlaneLemmas.{with_block_small, rows_small}
use Rattle.picture_tests.proofs.inter.fill.Goals as goal

pub returns-clause-small : goal.returns-clause-small
returns-clause-small g c = let a = c.args in let drawn = map g.P.Sample.value c.draw.new.samples in
    rw c.put_block.ensures.map (with_block_small a.most (plane_map a.plane.now) 0 0 _ _ (rows_of 96 drawn)
    c.requires.blank (rows_small a.most 96 drawn c.draw.ensures))
