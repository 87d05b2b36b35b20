use Rattle.std.proofs.Common.{◌+◌, ◌*◌, ◌∙◌, get_or}
use Rattle.vp9_types.specs.Maps.{is_within}
use Rattle.block_geometry.proofs.Rows.{run_of_row, row_more}
use Rattle.block_geometry.proofs.parts.fill_part.Goals as goal

pub loop-i-preserved : goal.loop-i-preserved
loop-i-preserved g c = λ r k low.
    let part = c.args.part in
    c.fill_run.ensures (r * c.args.width + k)
    ∙ (rw (run_of_row c.args.width (part.row + c.loop-i.i) part.col part.cols r k c.requires.wide low, c.loop-i.invariant r k low)
    (row_more part.row c.loop-i.i r (is_within part.col part.cols k) c.args.value (get_or c.args.places.now (r * c.args.width + k) c.args.value)))
