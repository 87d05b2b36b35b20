use Rattle.std.proofs.Common.{◌≡◌, ℕ, ◌<◌, length}
use Rattle.inverse_transforms.specs.Flow.{at}
use Rattle.residue_transforms.specs.Residue.{coefficient}
use Rattle.residue_transforms.proofs.scale.first_four.Given as goal

abbrev pub invariant-loop-place : goal.invariant-loop-place
invariant-loop-place l = record {
  size : length l.values ≡ 4;
  done : (k : ℕ) → k < l.place → at l.values k ≡ coefficient l.quant l.tx k (at l.levels k);
}
