use Rattle.vp9_app.proofs.Causes.{cause_of, complete_of}
use Rattle.vp9_app.proofs.laws.answers_have_their_causes.Goals as goal

pub returns-clause-cause : goal.returns-clause-cause
returns-clause-cause c = λ c s o n last r. cause_of c s o n r.first last r.work r.note

pub returns-clause-complete : goal.returns-clause-complete
returns-clause-complete c = λ c s o n last r. complete_of c s o n r.first last r.work r.note
