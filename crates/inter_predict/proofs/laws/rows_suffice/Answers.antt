use Rattle.inter_predict.proofs.Agree.{rows_agree}
use Rattle.inter_predict.proofs.laws.rows_suffice.Goals as goal

pub returns : goal.returns
returns c = rows_agree
