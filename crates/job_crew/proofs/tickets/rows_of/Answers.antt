use Rattle.std.proofs.Common.{◌≡◌, ◌+◌, ◌*◌, ◌∙◌, ap, subst, slice_get, Some, arith}
use Rattle.std.proofs.lemmas.Option.{slice_get-get_or}
use Rattle.job_order.specs.declared.segment.Segment.TheVariants.{Opening, Build}
use Rattle.job_crew.proofs.tickets.rows_of.Goals as goal

pub returns-in-Build : goal.returns-in-Build
returns-in-Build c =
    let at : c.in_ok-at.at ≡ 2 * c.args.frame + 2 = omega (arith, c.in_ok-at.ensures, c.in_ok-checked_mul.ensures) in (
      c.in-Build.frame,
      c.in-Build.columns,
      c.in-Build.shown,
      subst (λ i. slice_get c.args.segments.now i ≡ Some (Build c.in-Build.frame c.in-Build.columns c.in-Build.rows c.in-Build.shown)) at
          (slice_get-get_or c.args.segments.now c.in_ok-at.at Opening c.if-at-segments.false ∙ ap Some c.in-Build.is),
    )
