use Rattle.inverse_transforms.specs.Flow.{rotated_wide}
use Rattle.inverse_transforms.proofs.LaneLemmas.{FourSoFar}
use Rattle.inverse_transforms.proofs.lanes.rotated_wide_lanes.Given as goal

abbrev pub invariant-loop-j : goal.invariant-loop-j
invariant-loop-j l = FourSoFar l.limit (rotated_wide l.limit l.first.angle l.second.angle) l.a l.b l.c l.d l.p l.q l.r l.s l.j l.fit
