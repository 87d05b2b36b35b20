use Rattle.frame_headers.proofs.SizeLemmas.{start_has_sizes}
use Rattle.frame_headers.proofs.laws.start_has_no_slots.Goals as goal

pub returns-clause-sizes : goal.returns-clause-sizes
returns-clause-sizes c = start_has_sizes
