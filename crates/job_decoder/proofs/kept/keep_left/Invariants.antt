use Rattle.std.proofs.Common.{All, length}
use Rattle.job_crew.specs.Left.{HasRightResults}
use Rattle.job_rows.specs.job_results.Groups.{group_truth}
use Rattle.job_decoder.specs.Pasts.{IsKept}
use Rattle.job_decoder.proofs.kept.keep_left.Given as goal

abbrev pub invariant-loop-results : goal.invariant-loop-results
invariant-loop-results g l =
    All (HasRightResults (group_truth g.B.DecodeRun.first g.B.DecodeRun.format g.B.DecodeRun.film)) l.left.items × All (IsKept g.B.DecodeRun.format g.B.DecodeRun.film) l.kept.items

abbrev pub decreases-loop-results : goal.decreases-loop-results
decreases-loop-results g l = length l.left.items
