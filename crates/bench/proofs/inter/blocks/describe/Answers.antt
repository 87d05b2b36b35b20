use Rattle.planes.specs.Planes.{plane_map}
use Rattle.planes.proofs.PlaneLemmas.{zeros_small}
use Rattle.bench.proofs.inter.blocks.describe.Goals as goal

pub fill-requires-clause-small : goal.fill-requires-clause-small
fill-requires-clause-small c = zeros_small 255 (plane_map c.in_ok-plane.plane) c.in_ok-plane.ensures.zero
