use Rattle.std.proofs.Common.{refl}
use Rattle.line_filter.proofs.FarLines.{far_is}
use Rattle.line_filter.proofs.far.filtered_far.Goals as goal

pub returns : goal.returns
returns c = let a = c.args in
    far_is a.l a.x a.y _ c.filtered-near.result c.smooth_far-smooth.result c.chosen_far.result
    (rw (c.filter_mask.ensures, c.flat_mask.ensures, c.flat_mask2.ensures) refl) c.filtered-near.ensures c.smooth_far-smooth.ensures c.chosen_far.ensures
