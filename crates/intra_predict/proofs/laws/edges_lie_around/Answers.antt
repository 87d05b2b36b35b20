use Rattle.intra_predict.proofs.Around.{edges_agree}
use Rattle.intra_predict.proofs.laws.edges_lie_around.Goals as goal

pub returns : goal.returns
returns c = edges_agree
