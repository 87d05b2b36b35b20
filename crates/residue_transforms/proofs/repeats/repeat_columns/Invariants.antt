use Rattle.std.proofs.Common.{◌+◌, ◌*◌, ◌-◌}
use Rattle.inverse_transforms.specs.Flow.{at}
use Rattle.residue_transforms.proofs.Pieces.{Stored}
use Rattle.residue_transforms.proofs.repeats.repeat_columns.Given as goal

abbrev pub invariant-loop-k : goal.invariant-loop-k
invariant-loop-k l = Stored l.n l.first l.width (λ k j. at l.initial.to (k * l.n + (l.first - l.width + j))) l.initial.to l.to l.k
