use Rattle.drawn_frames.proofs.heads.draw_any.Goals as goal

pub returns-then-first-clause-made : goal.returns-then-first-clause-made
returns-then-first-clause-made c = c.draw_coded.ensures.made c.args.before.now (c.key_start.ensures.made c.args.before.now)
