use Rattle.inter_predict.proofs.Whole.{whole_copies}
use Rattle.inter_predict.proofs.laws.phase_zero_copies.Goals as goal

pub returns : goal.returns
returns c = whole_copies
