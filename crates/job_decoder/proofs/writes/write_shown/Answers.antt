use Rattle.std.proofs.Common.{refl}
use Rattle.std.proofs.lemmas.Result.{err_from_is_err_and}
use Rattle.job_rows.proofs.of_seq_decoder.ShowingLemmas.{render_shows}
use Rattle.job_decoder.proofs.Shown.{none_put, rows_asked, small_sample, text_by}
use Rattle.job_decoder.proofs.writes.write_shown.Goals as goal

pub rows_of-requires : goal.rows_of-requires
rows_of-requires g c κs =
    ((refl, (refl, tt)), rows_asked g.P.PlaneSample.keeps g.B.DecodeRun.format g.B.DecodeRun.film c.args.shown.now.frame c.superblock_rows.result c.args.shown.now.shape c.requires.shown c.superblock_rows.ensures c.requires.keeps)

pub returns-in_err-rows-clause-shows : goal.returns-in_err-rows-clause-shows
returns-in_err-rows-clause-shows g c =
    let p = err_from_is_err_and c.from_residual.result c.from_residual.ensures.1 in
    rw p.1 (none_put (g.K.Sink.taken c.args.sink.now) _ (g.K.Sink.faults c.args.sink.now) p.0 p.2)

pub returns-in_err-lengthen-clause-shows : goal.returns-in_err-lengthen-clause-shows
returns-in_err-lengthen-clause-shows g c =
    let p = err_from_is_err_and c.from_residual-in_err-lengthen.result c.from_residual-in_err-lengthen.ensures.1 in
    rw p.1 (none_put (g.K.Sink.taken c.args.sink.now) _ (g.K.Sink.faults c.args.sink.now) p.0 p.2)

pub render_as-requires-clause-small : goal.render_as-requires-clause-small
render_as-requires-clause-small g c = λ eight p y x low left.
    small_sample g.B.DecodeRun.format g.B.DecodeRun.film c.args.shown.now.frame _ c.new-frame.result c.args.shown.now.shape p y x c.new-frame.ensures c.requires.shown.1 eight

pub returns-clause-shows : goal.returns-clause-shows
returns-clause-shows g c =
    render_shows _ _ _ _ _ _ _ c.render_as.result (text_by g.B.DecodeRun.format g.B.DecodeRun.film c.args.shown.now.frame _ c.new-frame.result c.rendering.result c.args.form.now c.args.shown.now.shape c.new-frame.ensures c.rendering.ensures) c.render_as.ensures.bytes c.render_as.ensures.faults
