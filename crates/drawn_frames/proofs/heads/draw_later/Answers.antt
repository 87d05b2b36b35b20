use Rattle.drawn_frames.proofs.heads.draw_later.Goals as goal

pub draw_coded-requires-in-1 : goal.draw_coded-requires-in-1
draw_coded-requires-in-1 c = (c.draw_intra_only-start.ensures.made c.args.before.now c.requires).size

pub returns-in-0-clause-made : goal.returns-in-0-clause-made
returns-in-0-clause-made c = c.draw_coded.ensures.made c.args.before.now (c.key_start.ensures.made c.args.before.now)

pub returns-in-1-clause-made : goal.returns-in-1-clause-made
returns-in-1-clause-made c = c.draw_coded-in-1.ensures.made c.args.before.now (c.draw_intra_only-start.ensures.made c.args.before.now c.requires)

pub returns-in-2-clause-made : goal.returns-in-2-clause-made
returns-in-2-clause-made c = c.draw_shown.ensures.made c.args.before.now c.requires

pub returns-in_default-clause-made : goal.returns-in_default-clause-made
returns-in_default-clause-made c = c.draw_coded-in_default.ensures.made c.args.before.now c.draw_inter_fields-start.ensures.made
