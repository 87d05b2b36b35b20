use Rattle.mv_prediction.proofs.Columns.{same_candidates, same_context}
use Rattle.mv_prediction.proofs.laws.candidates_are_of_the_tiles_columns.Goals as goal

pub returns-clause-candidates : goal.returns-clause-candidates
returns-clause-candidates c = same_candidates

pub returns-clause-context : goal.returns-clause-context
returns-clause-context c = λ s xs ys same. same_context xs ys s same
