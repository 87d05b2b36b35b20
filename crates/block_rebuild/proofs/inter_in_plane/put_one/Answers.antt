use Rattle.std.proofs.Common.{◌∙◌, map}
use Rattle.planes.specs.Planes.{plane_map}
use Rattle.block_rebuild.specs.Code.{rebuilding_of}
use Rattle.block_rebuild.proofs.Areas.{lies_in, part_in_place, part_put, starts_in}
use Rattle.block_rebuild.proofs.Parts.{by_one, one_predicted, part_small}
use Rattle.block_rebuild.proofs.inter_in_plane.put_one.Goals as goal

pub predict_in_place-requires-clause-inside : goal.predict_in_place-requires-clause-inside
predict_in_place-requires-clause-inside g c = let a = c.args in let b = a.b.now in let at = a.place.now in
    lies_in b.by.now.shape _ b.block.now b.modes.now at.plane a.number 0 a.samples.now.area at
    c.requires.part.number c.requires.is.area c.requires.place c.requires.fits

pub predict_in_place-requires-clause-reference : goal.predict_in_place-requires-clause-reference
predict_in_place-requires-clause-reference g c = rw c.part_of-part.ensures c.requires.references.0

pub predict_part-requires-clause-reference : goal.predict_part-requires-clause-reference
predict_part-requires-clause-reference g c = rw c.part_of-part.ensures c.requires.references.0

pub put_rows-requires-clause-inside : goal.put_rows-requires-clause-inside
put_rows-requires-clause-inside g c = let a = c.args in let b = a.b.now in let at = a.place.now in
    rw c.predict_in_place.ensures.area
    (starts_in b.by.now.shape _ b.block.now b.modes.now at.plane a.number 0 a.samples.now.area at
    c.requires.part.number c.requires.is.area c.requires.place c.requires.fits)

pub returns-then-predict_in_place-clause-map : goal.returns-then-predict_in_place-clause-map
returns-then-predict_in_place-clause-map g c = let a = c.args in let b = a.b.now in let at = a.place.now in let by = rebuilding_of g.S.Samples.map b.by.now in
    let put = rw c.part_of-part.ensures at c.if-predict_in_place.ensures.map in
    put
    ∙ part_in_place by _ b.block.now b.modes.now at.plane a.number a.samples.now.area (plane_map a.samples.now) at _
    c.requires.part.number c.requires.is.area c.requires.place c.requires.fits
    (by_one by b.block.now b.modes.now at.plane a.number c.requires.one)

pub returns-then-predict_in_place-clause-range : goal.returns-then-predict_in_place-clause-range
returns-then-predict_in_place-clause-range g c = let a = c.args in let b = a.b.now in let at = a.place.now in
    part_small (rebuilding_of g.S.Samples.map b.by.now) b.block.now b.modes.now at.plane a.number (plane_map a.samples.now) (plane_map c.predict_in_place.new.samples)
    c.requires.is.range (returns-then-predict_in_place-clause-map g c)

pub returns-clause-map : goal.returns-clause-map
returns-clause-map g c = let a = c.args in let b = a.b.now in let at = a.place.now in let by = rebuilding_of g.S.Samples.map b.by.now in
    let block = map g.P.Sample.value c.predict_part.new.block in
    let put = rw c.if-predict_in_place.ensures.kept at c.put_rows.ensures.map in
    put
    ∙ part_put by _ b.block.now b.modes.now at.plane a.number a.samples.now.area (plane_map a.samples.now) at block
    c.requires.part.number c.requires.is.area c.requires.place c.requires.fits
    (one_predicted by b.block.now b.modes.now at.plane a.number at block c.requires.one (rw c.part_of-part.ensures at c.predict_part.ensures.samples))

pub returns-clause-range : goal.returns-clause-range
returns-clause-range g c = let a = c.args in let b = a.b.now in let at = a.place.now in
    part_small (rebuilding_of g.S.Samples.map b.by.now) b.block.now b.modes.now at.plane a.number (plane_map a.samples.now) (plane_map c.put_rows.new.samples)
    c.requires.is.range (returns-clause-map g c)
