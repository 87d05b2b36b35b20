use Rattle.drawn_frames.proofs.Next.{head_made}
use Rattle.drawn_frames.proofs.heads.draw_head.Goals as goal

pub returns-clause-next : goal.returns-clause-next
returns-clause-next c = head_made c.args.before.now c.draw_any.result.header c.slots_are_eight.ensures c.draw_any.ensures.made
