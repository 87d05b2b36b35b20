use Rattle.frame_headers.proofs.SizeLemmas.{slot_has_size}
use Rattle.frame_headers.proofs.references.read_slot.Goals as goal

pub returns-in-Some-clause-size : goal.returns-in-Some-clause-size
returns-in-Some-clause-size c = slot_has_size c.args.before.now c.from.result c.in-Some.shape c.in-Some.is
