use Rattle.std.proofs.Common.{length, map}
use Rattle.file_frames.specs.Code.{ahead}
use Rattle.job_heads.proofs.Lists.{AreFound}
use Rattle.job_heads.proofs.frames.find_frames.Given as goal

abbrev pub invariant-frames : goal.invariant-frames
invariant-frames l = AreFound l.bytes (map (λ frame. frame.now) l.frames.items) (ahead l.cursor)

abbrev pub decreases-frames : goal.decreases-frames
decreases-frames l = length (ahead l.cursor).frames
