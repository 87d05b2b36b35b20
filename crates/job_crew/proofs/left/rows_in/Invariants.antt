use Rattle.std.proofs.Common.{◌≡◌, length}
use Rattle.job_crew.specs.Left.{AreRightRows}
use Rattle.job_crew.proofs.left.rows_in.Given as goal

abbrev pub invariant-loop-row : goal.invariant-loop-row
invariant-loop-row g l = (length l.cells.items ≡ l.rows) × (length l.values.items ≡ l.row) × AreRightRows g.M.Meaning.truth l.frame l.values.items
