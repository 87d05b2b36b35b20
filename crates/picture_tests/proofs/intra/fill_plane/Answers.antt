use Rattle.std.proofs.lemmas.List.{map-id}
use Rattle.vp9_types.specs.Maps.{rows_of}
use Rattle.planes.specs.Planes.{plane_map}
use Rattle.planes.proofs.PlaneLemmas.{with_block_small, rows_small}
use Rattle.picture_tests.proofs.intra.fill_plane.Goals as goal

pub returns-clause-small : goal.returns-clause-small
returns-clause-small c = let a = c.args in
    rw (c.put_block.ensures.map, map-id c.fill.new.samples) (with_block_small 1023 (plane_map a.plane.now) 0 0 _ _ (rows_of 40 c.fill.new.samples)
    c.requires.small (rows_small 1023 40 c.fill.new.samples c.fill.ensures))
