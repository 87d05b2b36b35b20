use Rattle.std.proofs.Common.{◌^◌}
use Rattle.inverse_transforms.specs.Straight.{dct_quad}
use Rattle.inverse_transforms.proofs.LaneLemmas.{FourSoFar}
use Rattle.inverse_transforms.proofs.narrow.dct_lanes.Given as goal

abbrev pub invariant-loop-j : goal.invariant-loop-j
invariant-loop-j l = FourSoFar (2 ^ 15) dct_quad l.a l.b l.c l.d l.p l.q l.r l.s l.j l.fit
