use Rattle.std.proofs.Common.{All, length}
use Rattle.job_crew.specs.Left.{HasRightResults}
use Rattle.job_rows.specs.job_results.Meaning.{decode_truth}
use Rattle.job_decoder.proofs.kept_frames.KeptFrames.shared.Given as goal

abbrev pub invariant-loop-results : goal.invariant-loop-results
invariant-loop-results g l = All (HasRightResults (decode_truth g.B.DecodeRun.format g.B.DecodeRun.film)) l.all.items

abbrev pub decreases-loop-results : goal.decreases-loop-results
decreases-loop-results g l = length l.all.items
