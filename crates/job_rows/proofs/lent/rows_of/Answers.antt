use Rattle.std.proofs.Common.{◌<◌, arith}
use Rattle.vp9_types.specs.Shapes.{mi_rows}
use Rattle.vp9_types.specs.Sizes.{superblocks_along}
use Rattle.job_results.specs.numbered_frames.NumberedPictures.{pictures}
use Rattle.job_rows.proofs.FilteredSteps.{one_more_held, pushed_many, row_is_final}
use Rattle.job_rows.proofs.lent.rows_of.Goals as goal

pub loop-row-preserved : goal.loop-row-preserved
loop-row-preserved g c =
    let format = g.B.DecodeRun.format in
    let film = g.B.DecodeRun.film in
    let at = c.loop-row in
    let many = pushed_many at.rows.items c.push_reserved.new.self.items c.in_ok-filtered_planes.field-0 c.push_reserved.ensures.items in
    let low : at.row < superblocks_along (mi_rows (pictures format film c.args.frame).shape) = omega (arith, c.loop-row-test.true, c.requires.inside) in
    let of = c.requires.keeps in record {
      many = omega (arith, many, at.invariant.many, at.auto.row, c.requires.order);
      room = omega (arith, at.invariant.room, c.push_reserved.ensures.capacity);
      held = one_more_held (pictures format film c.args.frame) c.args.first at.row at.rows.items c.push_reserved.new.self.items c.in_ok-filtered_planes.field-0 c.push_reserved.ensures.items at.invariant.many
          (omega (arith, at.auto.row)) low at.invariant.held
          (row_is_final format film c.args.frame of.0 at.row c.in_ok-filtered_planes.field-0.now of.1 (c.in_ok-filtered_planes.ensures of.0 of.1));
    }
