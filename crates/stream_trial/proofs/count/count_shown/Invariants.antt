use Rattle.std.proofs.Common.{◌≤◌, length}
use Rattle.file_frames.specs.Code.{ahead}
use Rattle.stream_trial.proofs.Counts.{Counts}
use Rattle.stream_trial.proofs.count.count_shown.Given as goal

abbrev pub invariant-frames : goal.invariant-frames
invariant-frames l = record {
  counted : Counts l.file (ahead l.frames) l.persist l.count;
  few : l.count ≤ (ahead l.frames).number;
}

abbrev pub decreases-frames : goal.decreases-frames
decreases-frames l = length (ahead l.frames).frames
