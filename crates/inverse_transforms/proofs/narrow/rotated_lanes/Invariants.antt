use Rattle.std.proofs.Common.{◌^◌}
use Rattle.inverse_transforms.specs.Flow.{rotated}
use Rattle.inverse_transforms.proofs.LaneLemmas.{TwoSoFar}
use Rattle.inverse_transforms.proofs.narrow.rotated_lanes.Given as goal

abbrev pub invariant-loop-j : goal.invariant-loop-j
invariant-loop-j l = TwoSoFar (2 ^ 15) (rotated l.turn.angle) l.x l.y l.u l.v l.j l.fit
