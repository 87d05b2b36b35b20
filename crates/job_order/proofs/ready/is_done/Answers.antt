use Rattle.std.proofs.Common.{rules, ◌≡◌, ◌∙◌, ap, sym, Some}
use Rattle.std.proofs.lemmas.Option.{slice_get-get_or}
use Rattle.job_order.proofs.Readiness.{found}
use Rattle.job_order.proofs.ready.is_done.Goals as goal

pub returns-then-eq-clause-yes : goal.returns-then-eq-clause-yes
returns-then-eq-clause-yes g c = λ _.
    let same : c.index-finished-place.result.job ≡ c.args.job = search rules in
    found c.args.finished.now c.loop-place.place c.index-finished-place.result c.args.job
    (slice_get-get_or c.args.finished.now c.loop-place.place c.index-finished-place.result c.loop-place-test.true ∙ ap Some (sym c.index-finished-place.is)) same
