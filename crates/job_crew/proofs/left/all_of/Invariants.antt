use Rattle.std.proofs.Common.{All, length}
use Rattle.job_crew.specs.Left.{HasRightResults}
use Rattle.job_crew.proofs.left.all_of.Given as goal

abbrev pub invariant-loop-cells : goal.invariant-loop-cells
invariant-loop-cells g l = All (HasRightResults g.M.Meaning.truth) l.all.items

abbrev pub decreases-loop-cells : goal.decreases-loop-cells
decreases-loop-cells g l = length l.before.items
