use Rattle.std.proofs.Common.{◌≡◌, map, take}
use Rattle.inverse_transforms.specs.Flow.{at}
use Rattle.inverse_transforms.proofs.steps.gather.Given as goal

abbrev pub invariant-loop-i : goal.invariant-loop-i
invariant-loop-i l = take l.i l.t ≡ map (λ p. at l.old p) (take l.i l.order)
