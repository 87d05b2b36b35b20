use Rattle.std.proofs.Common.{neg_ℤ}
use Rattle.inverse_transforms.proofs.LaneLemmas.{OneSoFar}
use Rattle.inverse_transforms.proofs.lanes.negated_lanes.Given as goal

abbrev pub invariant-loop-j : goal.invariant-loop-j
invariant-loop-j l = OneSoFar l.limit neg_ℤ l.x l.u l.j l.fit
