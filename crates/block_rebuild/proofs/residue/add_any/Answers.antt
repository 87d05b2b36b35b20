use Rattle.std.specs.Prelude.{Some}
use Rattle.planes.specs.Planes.{lower_end, plane_map, right_end}
use Rattle.block_rebuild.proofs.Sums.{added_small}
use Rattle.block_rebuild.proofs.residue.add_any.Goals as goal

pub returns-in-Some-clause-range : goal.returns-in-Some-clause-range
returns-in-Some-clause-range g c = let a = c.args in
    let is = rw c.first_sample-row.ensures at c.add_square.ensures.map in
    rw is (added_small (right_end a.samples.now.area) (lower_end a.samples.now.area) a.depth a.block.now c.place.result (Some c.in-Some.values.now) (plane_map a.samples.now) c.requires.range)
