use Rattle.std.proofs.Common.{◌≡◌, ◌∙◌, ◌<◌, arith, ap, length, subst}
use Rattle.std.specs.Prelude.{IfSome, Option, Some, slice_set}
use Rattle.std.proofs.lemmas.List.{length-set}
use Rattle.job_crew.proofs.RowsLeft.{one_more_row}
use Rattle.job_rows.specs.job_results.Meaning.{decode_truth}
use Rattle.job_rows.specs.job_results.declared.result.JobResult.{JobResult}
use Rattle.job_decoder.proofs.RowsTaken.{right_taken, right_without}
use Rattle.job_decoder.proofs.kept.lasting_rows.Goals as goal

pub loop-row-preserved : goal.loop-row-preserved
loop-row-preserved g c =
    let i = c.loop-row.invariant in
    let truth = decode_truth g.B.DecodeRun.format g.B.DecodeRun.film in
    let rows = c.loop-row.rows.items in
    let at = c.loop-row.row in
    let row = c.index_mut.result.now in
    let gone = c.take_row-taken.new.row in
    let low : at < length rows = omega (arith, c.loop-row-test.true, c.len-row-end.ensures, i.0) in
    let lasts = subst (λ (y : Option JobResult). IfSome c.lasting.result (λ x. y ≡ Some x)) c.take_row-taken.ensures.taken c.lasting.ensures in (
      length-set rows at gone ∙ i.0,
      omega (arith, c.in_ok-push.ensures.len, i.1),
      right_without truth c.args.number at rows (slice_set rows at gone) (ap (slice_set rows at) c.take_row-taken.ensures.none) i.2,
      one_more_row truth c.args.number at c.loop-row.kept.items _ _ i.3 i.1 (right_taken truth c.args.number at rows row c.lasting.result low c.index_mut.ensures.value i.2 lasts) c.in_ok-push.ensures.items,
    )
