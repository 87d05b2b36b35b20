use Rattle.frame_headers.proofs.SizeLemmas.{next_has_sizes}
use Rattle.frame_headers.proofs.header.Header.next.Goals as goal

pub returns-clause-sizes : goal.returns-clause-sizes
returns-clause-sizes c = λ size slots. rw (c.refresh_slots.ensures, c.shape.ensures) (next_has_sizes c.args.self.now c.args.before.now size slots)
