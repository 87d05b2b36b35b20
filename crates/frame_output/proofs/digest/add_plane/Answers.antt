use Rattle.std.proofs.Common.{rules}
use Rattle.frame_output.specs.Texts.{rows_text}
use Rattle.frame_output.proofs.RowTexts.{piece_is}
use Rattle.frame_output.proofs.Digests.{nothing_added, rows_added}
use Rattle.frame_output.proofs.digest.add_plane.Goals as goal

pub loop-y-init : goal.loop-y-init
loop-y-init g c = (search rules, nothing_added c.args.hasher.now _ _ _)

pub loop-y-preserved : goal.loop-y-preserved
loop-y-preserved g c = let a = c.args in
    let width = c.plane_size-width.result.0 in
    let plane = g.S.Samples.map a.samples.now a.plane in
    let wrote = piece_is c.min-count.result _ _ width c.write_rows.new.buffer (rows_text a.shape.now.depth width plane c.loop-y.y c.min-count.result) c.sample_bytes.ensures.value c.write_rows.ensures in (
      search rules,
      λ m holds. rows_added c.loop-y.hasher c.update.new.self a.shape.now.depth width plane c.loop-y.y c.min-count.result _ m
          (c.loop-y.invariant.1 m holds) wrote c.update.ensures,
    )
