use Rattle.inter_predict.proofs.Agree.{predicted_small}
use Rattle.inter_predict.proofs.laws.samples_stay_in_range.Goals as goal

pub returns : goal.returns
returns c = predicted_small
