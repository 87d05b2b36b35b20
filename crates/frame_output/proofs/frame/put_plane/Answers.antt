use Rattle.std.proofs.Common.{rules, ◌∙◌}
use Rattle.std.proofs.lemmas.Result.{err_from_is_err_and}
use Rattle.frame_output.specs.Texts.{plane_text, rows_text}
use Rattle.frame_output.proofs.RowTexts.{nothing_put, piece_is, rows_put, rows_refused}
use Rattle.frame_output.proofs.frame.put_plane.Goals as goal

pub loop-y-init : goal.loop-y-init
loop-y-init g c =
    record {
      within = search rules;
      taken = nothing_put (g.K.Sink.taken c.args.sink.now) c.args.shape.now.depth c.plane_size-width.result.0 (g.S.Samples.map c.args.samples.now c.args.plane);
      faults = search rules;
      grows = search rules;
      again = c.requires.sink;
    }

pub returns-in_err-put_all-clause-bytes : goal.returns-in_err-put_all-clause-bytes
unfolding plane_text
returns-in_err-put_all-clause-bytes g c = let a = c.args in
    let p = err_from_is_err_and c.from_residual.result c.from_residual.ensures.1 in
    let width = c.plane_size-width.result.0 in
    let wrote = piece_is c.min-count.result _ _ width c.write_rows.new.buffer (rows_text a.shape.now.depth width (g.S.Samples.map a.samples.now a.plane) c.loop-y.y c.min-count.result) c.sample_bytes.ensures.value c.write_rows.ensures in
    let front = rows_refused (g.K.Sink.taken a.sink.now) (g.K.Sink.taken c.loop-y.sink) (g.K.Sink.taken c.put_all.new.sink) a.shape.now.depth width (g.S.Samples.map a.samples.now a.plane)
    c.loop-y.y c.min-count.result c.plane_size-width.result.1 _ (search rules) c.loop-y.invariant.taken wrote c.in_err-put_all.ensures.bytes in
    rw p.1 (rw (c.plane_size-width.ensures.width, c.plane_size-width.ensures.height) at front)

pub loop-y-preserved : goal.loop-y-preserved
loop-y-preserved g c = let a = c.args in
    let width = c.plane_size-width.result.0 in
    let wrote = piece_is c.min-count.result _ _ width c.write_rows.new.buffer (rows_text a.shape.now.depth width (g.S.Samples.map a.samples.now a.plane) c.loop-y.y c.min-count.result) c.sample_bytes.ensures.value c.write_rows.ensures in
    record {
      within = search rules;
      taken = rows_put (g.K.Sink.taken a.sink.now) (g.K.Sink.taken c.loop-y.sink) (g.K.Sink.taken c.put_all.new.sink) a.shape.now.depth width (g.S.Samples.map a.samples.now a.plane)
          c.loop-y.y c.min-count.result _ c.loop-y.invariant.taken wrote c.in_ok-put_all.ensures.bytes;
      faults = c.in_ok-put_all.ensures.faults ∙ c.loop-y.invariant.faults;
      grows = c.put_all.ensures.grows ∙ c.loop-y.invariant.grows;
      again = c.in_ok-put_all.ensures.again c.in_ok-put_all.ensures.faults;
    }
