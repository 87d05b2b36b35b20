use Rattle.vp9_types.specs.declared.shape.Plane.TheVariants.{U}
use Rattle.block_rebuild.specs.Code.{rebuilding_of}
use Rattle.block_rebuild.proofs.Parts.{second_is_served, two_places}
use Rattle.block_rebuild.proofs.inter_in_plane.put_chroma_part.Goals as goal

pub place_in-at-requires-clause-reference : goal.place_in-at-requires-clause-reference
place_in-at-requires-clause-reference g c = c.requires.references.0

pub place_in-other-requires-clause-reference : goal.place_in-other-requires-clause-reference
place_in-other-requires-clause-reference g c = let b = c.args.b.now in
    second_is_served g.S.Samples.holds g.S.Samples.width g.S.Samples.map b.by.now b.block.now b.modes.now b.modes.now.references.second c.in-Some.second c.requires.references.1 c.in-Some.is

pub put_two-requires-clause-places : goal.put_two-requires-clause-places
put_two-requires-clause-places g c = let b = c.args.b.now in
    two_places (rebuilding_of g.S.Samples.map b.by.now) b.block.now b.modes.now U c.args.number c.in-Some.second c.place_in-at.result c.place_in-other.result
    c.in-Some.is c.place_in-at.ensures.plane c.place_in-at.ensures.place c.place_in-other.ensures.place c.place_in-at.ensures.fits c.place_in-other.ensures.fits

pub put_one-requires-in-None-clause-fits : goal.put_one-requires-in-None-clause-fits
put_one-requires-in-None-clause-fits g c = c.in_v.ensures.fits c.place_in-at.ensures.fits

pub put_two-requires-in-Some-clause-places : goal.put_two-requires-in-Some-clause-places
put_two-requires-in-Some-clause-places g c = c.both_in_v.ensures.places _ _ _ _ (let b = c.args.b.now in
    two_places (rebuilding_of g.S.Samples.map b.by.now) b.block.now b.modes.now U c.args.number c.in-Some.second c.place_in-at.result c.place_in-other.result
    c.in-Some.is c.place_in-at.ensures.plane c.place_in-at.ensures.place c.place_in-other.ensures.place c.place_in-at.ensures.fits c.place_in-other.ensures.fits)
