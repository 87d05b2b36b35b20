use Rattle.std.proofs.Common.{◌≡◌, ℕ, ◌∙◌, sym, subst, reverse, Option, Some, None}
use Rattle.std.proofs.lemmas.Option.{same_Some}
use Rattle.vp9_types.specs.declared.job.JobName.TheVariants.{Filter}
use Rattle.job_order.specs.Worlds.{IsFinished}
use Rattle.job_order.proofs.ready.is_out.Goals as goal

pub returns-in-None-clause-yes : goal.returns-in-None-clause-yes
returns-in-None-clause-yes g c = λ _ row p. absurd (let e : ◌≡◌ {A = Option ℕ} None (Some row) = sym c.in-None.is ∙ (c.publisher.ensures row).1 p in cc)

pub returns-in-Some-clause-yes : goal.returns-in-Some-clause-yes
returns-in-Some-clause-yes g c = λ yes row p.
    let same : c.in-Some.row ≡ row = same_Some c.in-Some.row row (sym c.in-Some.is ∙ (c.publisher.ensures row).1 p) in
    subst (λ i. IsFinished (reverse c.args.finished.now) (Filter c.args.frame i)) same (c.is_done.ensures.yes yes)

pub returns-in-Some-clause-no : goal.returns-in-Some-clause-no
returns-in-Some-clause-no g c = λ no all. c.is_done.ensures.no no (all c.in-Some.row ((c.publisher.ensures c.in-Some.row).0 c.in-Some.is))
