use Rattle.frame_steps.proofs.Copies.{start_sized}
use Rattle.frame_steps.proofs.kept.Kept.start.Goals as goal

pub returns-clause-may : goal.returns-clause-may
returns-clause-may c = record { sized = start_sized; places = tt }
