use Rattle.std.proofs.Common.{◌^◌, slice_index}
use Rattle.inverse_transforms.specs.Straight.{odd_quad}
use Rattle.inverse_transforms.proofs.LaneLemmas.{FourSoFar}
use Rattle.inverse_transforms.proofs.narrow.odd_lanes.Given as goal

abbrev pub invariant-loop-j : goal.invariant-loop-j
invariant-loop-j l = FourSoFar (2 ^ 15) (odd_quad (slice_index l.angles 0) (slice_index l.angles 1) (slice_index l.angles 2)) l.a l.b l.c l.d l.p l.q l.r l.s l.j l.fit
