use Rattle.std.proofs.Common.{All, length}
use Rattle.job_crew.specs.Left.{HasRightResults}
use Rattle.job_rows.specs.job_results.Meaning.{decode_truth}
use Rattle.job_decoder.proofs.kept_frames.KeptFrames.into_results.Given as goal

abbrev pub invariant-loop-frame : goal.invariant-loop-frame
invariant-loop-frame g l = All (HasRightResults (decode_truth g.B.DecodeRun.format g.B.DecodeRun.film)) l.all.items

abbrev pub decreases-loop-frame : goal.decreases-loop-frame
decreases-loop-frame g l = length l.frames.items
