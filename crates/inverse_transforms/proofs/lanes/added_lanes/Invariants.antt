use Rattle.inverse_transforms.specs.Flow.{sum_and_difference}
use Rattle.inverse_transforms.proofs.LaneLemmas.{TwoSoFar}
use Rattle.inverse_transforms.proofs.lanes.added_lanes.Given as goal

abbrev pub invariant-loop-j : goal.invariant-loop-j
invariant-loop-j l = TwoSoFar l.limit sum_and_difference l.x l.y l.u l.v l.j l.fit
