use Rattle.drawn_frames.proofs.Next.{slot_holds}
use Rattle.drawn_frames.proofs.heads.draw_shown.Goals as goal

pub returns-clause-made : goal.returns-clause-made
returns-clause-made c = λ before made. (c.draw-slot.ensures.below, slot_holds before c.draw-slot.result made c.draw-slot.ensures.below)
