use Rattle.std.proofs.Common.{arith}
use Rattle.inter_predict.proofs.Values.{zeros}
use Rattle.planes.specs.Planes.{plane_map}
use Rattle.planes.proofs.PlaneLemmas.{zeros_small}
use Rattle.picture_tests.proofs.inter.luma_of.Goals as goal

pub fill-requires-clause-blank : goal.fill-requires-clause-blank
fill-requires-clause-blank g c = zeros_small _ (plane_map c.in_ok-plane.plane) c.in_ok-plane.ensures.zero

pub fill-requires-clause-small : goal.fill-requires-clause-small
fill-requires-clause-small g c = λ k. rw (c.deref_mut.ensures.value, c.in_ok-samples.ensures.zero, zeros 7680 k) (omega arith)
