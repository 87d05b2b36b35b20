use Rattle.std.proofs.Common.{◌≡◌, sym}
use Rattle.inter_places.specs.Places.{place_of}
use Rattle.block_rebuild.proofs.Parts.{across_size, part_held, served_of}
use Rattle.block_rebuild.proofs.inter_in_plane.predict_in_place.Goals as goal

pub predict_in_plane-requires-clause-held : goal.predict_in_plane-requires-clause-held
predict_in_plane-requires-clause-held g c = λ r low high. let a = c.args in let by = a.b.now.by.now in let at = a.place.now in
    let picture = c.in-Some.picture.now in
    let is : at ≡ place_of by.shape a.b.now.block.now a.b.now.modes.now a.part picture.shape = rw (sym c.in-Some.ensures) at c.requires.place in
    let served = served_of g.S.Samples.holds g.S.Samples.width g.S.Samples.map by a.b.now.block.now a.b.now.modes.now a.part.list a.reference picture (sym c.in-Some.ensures) c.requires.reference in
    part_held g.S.Samples.holds by.shape a.b.now.block.now a.b.now.modes.now a.part picture at r is (served.held a.part.plane a.part.number c.requires.part.number) low high

pub predict_in_plane-requires-clause-wide : goal.predict_in_plane-requires-clause-wide
predict_in_plane-requires-clause-wide g c = let a = c.args in let by = a.b.now.by.now in let at = a.place.now in
    let picture = c.in-Some.picture.now in
    let is : at ≡ place_of by.shape a.b.now.block.now a.b.now.modes.now a.part picture.shape = rw (sym c.in-Some.ensures) at c.requires.place in
    let served = served_of g.S.Samples.holds g.S.Samples.width g.S.Samples.map by a.b.now.block.now a.b.now.modes.now a.part.list a.reference picture (sym c.in-Some.ensures) c.requires.reference in
    rw (across_size by.shape picture.shape a.b.now.block.now a.b.now.modes.now a.part at is) (served.wide at.plane)
