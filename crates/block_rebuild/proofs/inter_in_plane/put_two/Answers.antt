use Rattle.std.proofs.Common.{◌∙◌, map}
use Rattle.planes.specs.Planes.{plane_map}
use Rattle.block_rebuild.specs.Code.{rebuilding_of}
use Rattle.block_rebuild.proofs.Areas.{part_put, starts_in}
use Rattle.block_rebuild.proofs.Parts.{part_small, second_is_served, two_predicted}
use Rattle.block_rebuild.proofs.inter_in_plane.put_two.Goals as goal

pub put_rows-requires-clause-inside : goal.put_rows-requires-clause-inside
put_rows-requires-clause-inside g c = let a = c.args in let b = a.b.now in let at = a.places.now.at in
    starts_in b.by.now.shape _ b.block.now b.modes.now at.plane a.number 0 a.samples.now.area at
    c.requires.part.number c.requires.is.area c.requires.places.at c.requires.places.fits

pub returns-clause-map : goal.returns-clause-map
returns-clause-map g c = let a = c.args in let b = a.b.now in let at = a.places.now.at in let by = rebuilding_of g.S.Samples.map b.by.now in let value = g.P.Sample.value in
    let block = map value c.average.new.block in
    c.put_rows.ensures.map
    ∙ part_put by _ b.block.now b.modes.now at.plane a.number a.samples.now.area (plane_map a.samples.now) at block
    c.requires.part.number c.requires.is.area c.requires.places.at c.requires.places.fits
    (two_predicted by b.block.now b.modes.now at.plane a.number a.places.now.second _ _ at a.places.now.other (map value c.predict_part.new.block) (map value c.predict_part-2.new.block) block
    c.requires.places.second c.requires.places.at c.requires.places.other
    (rw c.part_of-part.ensures at c.predict_part.ensures.samples) (rw c.part_of-other.ensures at c.predict_part-2.ensures.samples) c.average.ensures.value)

pub returns-clause-range : goal.returns-clause-range
returns-clause-range g c = let a = c.args in let b = a.b.now in let at = a.places.now.at in
    part_small (rebuilding_of g.S.Samples.map b.by.now) b.block.now b.modes.now at.plane a.number (plane_map a.samples.now) (plane_map c.put_rows.new.samples)
    c.requires.is.range (returns-clause-map g c)

pub predict_part-requires-clause-reference : goal.predict_part-requires-clause-reference
predict_part-requires-clause-reference g c = rw c.part_of-part.ensures c.requires.references.0

pub predict_part-requires-2-clause-reference : goal.predict_part-requires-2-clause-reference
predict_part-requires-2-clause-reference g c = let a = c.args in let b = a.b.now in
    rw c.part_of-other.ensures (second_is_served g.S.Samples.holds g.S.Samples.width g.S.Samples.map b.by.now b.block.now b.modes.now b.modes.now.references.second a.places.now.second c.requires.references.1 c.requires.places.second)
