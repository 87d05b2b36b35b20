use Rattle.std.proofs.Common.{◌≡◌, ℕ, ◌<◌, length}
use Rattle.inverse_transforms.specs.Flow.{at}
use Rattle.residue_transforms.specs.Residue.{round}
use Rattle.residue_transforms.proofs.group.rounded_four.Given as goal

abbrev pub invariant-loop-j : goal.invariant-loop-j
invariant-loop-j l = record {
  size : length l.values ≡ 4;
  done : (j : ℕ) → j < l.j → at l.values j ≡ round l.bits (at l.lanes j);
}
