use Rattle.std.proofs.Common.{ℕ, ◌<◌, ℤ, get_or}
use Rattle.residue_transforms.specs.Residue.{IsLevel}
use Rattle.picture_tests.proofs.residues.are_levels.Given as goal

abbrev pub invariant-loop-x : goal.invariant-loop-x
invariant-loop-x l = (k : ℕ) (d : ℤ) → k < l.x-index → IsLevel (get_or l.xs k d)
