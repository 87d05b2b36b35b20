use Rattle.inverse_transforms.specs.Flow.{at}
use Rattle.residue_transforms.specs.SquareBlocks.{HasPiece}
use Rattle.residue_transforms.proofs.group.put_eight.Given as goal

abbrev pub invariant-loop-j : goal.invariant-loop-j
invariant-loop-j l = HasPiece l.place l.j (λ j. at l.values j) l.initial.to l.to
