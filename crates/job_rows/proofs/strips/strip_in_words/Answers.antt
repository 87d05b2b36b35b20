use Rattle.std.proofs.Common.{subst}
use Rattle.std.specs.Prelude.{IfOk}
use Rattle.job_results.specs.JobResults.{IsStripAs}
use Rattle.job_rows.specs.LentRows.{OfFrame}
use Rattle.job_rows.proofs.strips.strip_in_words.Goals as goal

pub returns-in-Ok : goal.returns-in-Ok
returns-in-Ok c = λ format film f k row of right.
    let all = subst (λ r. IfOk r (λ planes. OfFrame format film f (λ d. IsStripAs d k row planes))) c.in-Ok.is right in
    (of.0, of.1, of.2, all of.0 of.1)
