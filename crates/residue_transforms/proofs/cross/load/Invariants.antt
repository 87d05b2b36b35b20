use Rattle.std.proofs.Common.{◌*◌}
use Rattle.residue_transforms.specs.Fours.{AreLoaded}
use Rattle.residue_transforms.proofs.cross.load.Given as goal

abbrev pub invariant-loop-k : goal.invariant-loop-k
invariant-loop-k l = AreLoaded l.n l.from (l.first * l.n) l.t (4 * l.k)
