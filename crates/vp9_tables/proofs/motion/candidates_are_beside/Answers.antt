use Rattle.vp9_tables.proofs.Candidates.{beside}
use Rattle.vp9_tables.proofs.motion.candidates_are_beside.Goals as goal

pub returns : goal.returns
returns c = beside
