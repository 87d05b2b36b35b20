use Rattle.numbered_frames.proofs.SlotFrames.{slots_hold}
use Rattle.numbered_frames.proofs.laws.slots_hold_frames.Goals as goal

pub returns : goal.returns
returns c = λ format film f p is. slots_hold format film f p is
