use Rattle.std.proofs.Common.{ap, refl, inr, subst}
use Rattle.std.specs.Prelude.{IfSome, Option}
use Rattle.vp9_types.specs.declared.job.JobName.TheVariants.{Close}
use Rattle.job_rows.specs.job_results.Meaning.{builds, shown_as}
use Rattle.job_rows.specs.job_results.JobResults.{IsRight}
use Rattle.job_rows.specs.job_results.declared.result.JobResult.{JobResult}
use Rattle.job_decoder.proofs.kept.slots_in.Goals as goal

pub returns-in-Closed : goal.returns-in-Closed
returns-in-Closed g c =
    let b = g.B.DecodeRun in
    let k = c.in-Closed.closed.value in
    let frame = c.args.results.now.frame in
    let right = subst (λ (o : Option JobResult). IfSome o (λ x. IsRight b.format b.film (Close frame) x)) c.in-Some.is c.requires.close in
    inr (frame, refl, (record { columns = k.columns; rows = k.rows; shown = shown_as k.shown }, (c.in-Some.close, right, ap builds c.in-Closed.is)))
