use Rattle.frame_groups.proofs.GroupLemmas.{ends_alone, frames_alone}
use Rattle.frame_groups.proofs.laws.front_has_these_frames.Goals as goal

pub returns-clause-frames : goal.returns-clause-frames
returns-clause-frames c = frames_alone

pub returns-clause-ending : goal.returns-clause-ending
returns-clause-ending c = ends_alone
