use Rattle.std.proofs.Common.{◌*◌}
use Rattle.inverse_transforms.specs.Ranges.{limit_of}
use Rattle.residue_transforms.specs.Residue.{rounded_transform}
use Rattle.residue_transforms.proofs.GroupTurns.{TurnSoFar}
use Rattle.residue_transforms.proofs.turn.turn_large.Given as goal

abbrev pub invariant-loop-group : goal.invariant-loop-group
invariant-loop-group l =
    TurnSoFar (rounded_transform l.pass.kind (limit_of l.pass.depth) l.pass.log2 l.pass.bits) l.n l.from l.to (l.group * 8)
