use Rattle.intra_predict.proofs.Bounds.{edges_small, predicted_small}
use Rattle.intra_predict.proofs.laws.samples_stay_in_range.Goals as goal

pub returns-clause-edges : goal.returns-clause-edges
returns-clause-edges c = λ width height size depth p m. edges_small width height size p depth m

pub returns-clause-predicted : goal.returns-clause-predicted
returns-clause-predicted c = predicted_small
