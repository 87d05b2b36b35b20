use Rattle.listed_frames.proofs.listed.write_listed.Goals as goal

pub write_coded-requires-clause-modes : goal.write_coded-requires-clause-modes
write_coded-requires-clause-modes c = c.can_say.ensures.modes c.if-not-can_say.false
