use Rattle.std.proofs.Common.{ℕ, ◌≤◌, refl, reverse, arith}
use Rattle.vp9_types.specs.declared.job.JobName.TheVariants.{Filter}
use Rattle.job_order.specs.Needs.{Publishes}
use Rattle.job_order.specs.Worlds.{IsFinished}
use Rattle.job_order.proofs.Readiness.{all_below}
use Rattle.job_order.proofs.ready.are_out.Goals as goal

pub loop-band-preserved : goal.loop-band-preserved
loop-band-preserved g c =
    record {
      from = let f = c.loop-band.invariant.from in omega (arith, f);
      all = all_below (λ i. (row : ℕ) → c.args.span.first ≤ i → Publishes c.args.segments.now c.args.span.frame row i → IsFinished (reverse c.args.finished.now) (Filter c.args.span.frame row))
          c.loop-band.band c.loop-band.invariant.all (λ row less p. c.is_out.ensures.yes c.if-not-is_out.false row p);
    }

pub returns-then-not-is_out-clause-no : goal.returns-then-not-is_out-clause-no
returns-then-not-is_out-clause-no g c = λ _ all.
    c.if-not-is_out.ensures.no refl (λ row p. all c.loop-band.band row c.loop-band.invariant.from c.loop-band-test.true p)

pub returns-clause-yes : goal.returns-clause-yes
returns-clause-yes g c = λ _ band row from to p. c.loop-band.invariant.all band (let t = c.loop-band-test.false in omega (arith, t, to)) row from p
