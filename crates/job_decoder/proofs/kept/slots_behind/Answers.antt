use Rattle.std.proofs.Common.{ℕ, ◌+◌, subst}
use Rattle.std.specs.Prelude.{IfSome}
use Rattle.vp9_types.specs.declared.job.JobName.TheVariants.{Head}
use Rattle.job_crew.specs.Runs.{IsDue}
use Rattle.job_rows.specs.job_results.Meaning.{decode_rules, decode_truth}
use Rattle.job_decoder.proofs.kept.slots_behind.Goals as goal

pub returns-then-results-frame : goal.returns-then-results-frame
returns-then-results-frame g c =
    let b = g.B.DecodeRun in
    subst (λ (n : ℕ). IfSome c.slots_in.result (λ slots. IsDue (decode_rules b.format b.film) (decode_truth b.format b.film) (Head (n + 1)))) c.if-results-frame.true c.slots_in.ensures
