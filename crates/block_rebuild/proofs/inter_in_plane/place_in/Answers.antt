use Rattle.block_rebuild.proofs.Parts.{plane_is}
use Rattle.block_rebuild.proofs.inter_in_plane.place_in.Goals as goal

pub returns-clause-plane : goal.returns-clause-plane
returns-clause-plane g c = plane_is _ _ _ _ _ _ c.place.ensures.value
