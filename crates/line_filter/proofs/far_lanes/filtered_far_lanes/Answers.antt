use Rattle.std.proofs.Common.{refl}
use Rattle.line_filter.specs.declared.edge.FilterWidth.TheVariants.{Sixteen}
use Rattle.line_filter.specs.Lines.{filtered_line}
use Rattle.line_filter.specs.Code.{smoothed_far}
use Rattle.line_filter.proofs.NearMasks.{smooth_of_sixteen, taken_far}
use Rattle.line_filter.proofs.far_lanes.filtered_far_lanes.Goals as goal

pub returns-then-not-near : goal.returns-then-not-near
returns-then-not-near g c =
    taken_far (smoothed_far c.args.l) (filtered_line c.args.l Sixteen) _ _ _ _ _ _ _ _ c.lanes_from.ensures c.lanes_from-then-not-near.ensures c.rows_of-above.ensures c.rows_of-below.ensures
    c.filtered_far_rows.ensures (λ j low. smooth_of_sixteen c.args.l _ (rw (c.rows_of-above.ensures, c.rows_of-below.ensures) (c.requires.flat c.if-not-near.true j low)))

pub returns : goal.returns
returns g c =
    taken_far (filtered_line c.args.l Sixteen) (filtered_line c.args.l Sixteen) _ _ _ _ _ _ _ _ c.lanes_from-2.ensures c.lanes_from-3.ensures c.rows_of-above.ensures c.rows_of-below.ensures
    c.filtered_far_rows-2.ensures (λ j low. refl)
