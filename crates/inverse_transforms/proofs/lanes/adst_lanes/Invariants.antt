use Rattle.inverse_transforms.specs.Transforms.{adst_quad}
use Rattle.inverse_transforms.proofs.LaneLemmas.{FourSoFar}
use Rattle.inverse_transforms.proofs.lanes.adst_lanes.Given as goal

abbrev pub invariant-loop-j : goal.invariant-loop-j
invariant-loop-j l = FourSoFar l.limit (adst_quad l.limit) l.a l.b l.c l.d l.p l.q l.r l.s l.j l.fit
