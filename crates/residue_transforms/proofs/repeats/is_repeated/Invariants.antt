use Rattle.std.proofs.Common.{◌≡◌, ℕ, ◌+◌, ◌-◌, ◌<◌}
use Rattle.residue_transforms.specs.SquareBlocks.{row}
use Rattle.residue_transforms.proofs.repeats.is_repeated.Given as goal

abbrev pub invariant-loop-j : goal.invariant-loop-j
invariant-loop-j l = (i : ℕ) → i < l.j → row l.n (l.first + i) l.from ≡ row l.n (l.first - l.width + i) l.from
