use Rattle.std.proofs.Common.{◌≡◌, map, take, get_or, []}
use Rattle.inverse_transforms.proofs.lane_steps.gather.Given as goal

abbrev pub invariant-loop-i : goal.invariant-loop-i
invariant-loop-i l = take l.i l.t ≡ map (λ p. get_or l.old p []) (take l.i l.order)
