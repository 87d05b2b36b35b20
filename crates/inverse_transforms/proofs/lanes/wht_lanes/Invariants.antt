use Rattle.inverse_transforms.specs.Transforms.{wht_quad}
use Rattle.inverse_transforms.proofs.LaneLemmas.{FourSoFar}
use Rattle.inverse_transforms.proofs.lanes.wht_lanes.Given as goal

abbrev pub invariant-loop-j : goal.invariant-loop-j
invariant-loop-j l = FourSoFar l.limit (wht_quad l.shift) l.a l.b l.c l.d l.p l.q l.r l.s l.j l.fit
