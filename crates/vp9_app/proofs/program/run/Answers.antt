use Rattle.vp9_app.proofs.Causes.{runs}
use Rattle.vp9_app.proofs.program.run.Goals as goal

pub returns-clause-answer : goal.returns-clause-answer
returns-clause-answer g c =
    let told = c.report-status.ensures.tells in
    runs _ _ _ _ c.work-first.result.status told.0 c.report-status.result c.work-first.ensures.work told.1 told.2
