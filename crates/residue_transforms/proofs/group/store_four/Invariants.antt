use Rattle.std.proofs.Common.{get_or, []}
use Rattle.inverse_transforms.specs.Flow.{at}
use Rattle.residue_transforms.specs.Residue.{round}
use Rattle.residue_transforms.proofs.Pieces.{Stored}
use Rattle.residue_transforms.proofs.group.store_four.Given as goal

abbrev pub invariant-loop-k : goal.invariant-loop-k
invariant-loop-k l = Stored 4 0 4 (λ k j. round l.bits (at (get_or l.t k []) j)) l.initial.to l.to l.k
