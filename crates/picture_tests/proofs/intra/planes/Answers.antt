use Rattle.planes.specs.Planes.{plane_map}
use Rattle.planes.proofs.PlaneLemmas.{zeros_small}
use Rattle.picture_tests.proofs.intra.planes.Goals as goal

pub fill_plane-requires-clause-small : goal.fill_plane-requires-clause-small
fill_plane-requires-clause-small g c = zeros_small 1023 (plane_map c.in_ok-plane.plane) c.in_ok-plane.ensures.zero
