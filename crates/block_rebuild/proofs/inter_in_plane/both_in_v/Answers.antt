use Rattle.std.proofs.Common.{refl}
use Rattle.block_rebuild.proofs.Parts.{two_in_v}
use Rattle.block_rebuild.proofs.inter_in_plane.both_in_v.Goals as goal

pub returns-clause-places : goal.returns-clause-places
returns-clause-places c = λ by b modes n are.
    two_in_v by b modes n c.args.places.now (record { second = c.args.places.now.second; at = c.in_v.result; other = c.in_v-2.result })
    c.requires c.in_v.ensures.plane refl c.in_v.ensures.part c.in_v-2.ensures.part c.in_v.ensures.fits c.in_v-2.ensures.fits are
