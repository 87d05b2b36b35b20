use Rattle.std.proofs.Common.{false, true}
use Rattle.line_filter.specs.Lines.{filtered_near}
use Rattle.line_filter.specs.Code.{narrowed, smoothed}
use Rattle.line_filter.proofs.KeptLines.{is_off}
use Rattle.line_filter.proofs.NearMasks.{narrow_of_four, narrow_of_eight, smooth_of_eight, taken}
use Rattle.line_filter.proofs.lanes.filtered_by.Goals as goal

pub returns-then-not-wide : goal.returns-then-not-wide
returns-then-not-wide g c = rw c.if-not-wide.true
    (taken (narrowed c.args.l) (filtered_near c.args.l false) _ _ _ _ c.lanes_of.ensures c.rows_of-rows.ensures c.filtered_rows.ensures (λ j low. narrow_of_four c.args.l _))

pub returns-then-not-masks : goal.returns-then-not-masks
returns-then-not-masks g c = rw c.if-not-wide.false
    (taken (narrowed c.args.l) (filtered_near c.args.l true) _ _ _ _ c.lanes_of-then-not-masks.ensures c.rows_of-rows.ensures c.filtered_rows-then-not-masks.ensures
    (λ j low. narrow_of_eight c.args.l _ (c.masks_of-masks.ensures.smooth (is_off _ c.if-not-masks.true) j low)))

pub returns-then-not-masks-2 : goal.returns-then-not-masks-2
returns-then-not-masks-2 g c = rw c.if-not-wide.false
    (taken (smoothed c.args.l) (filtered_near c.args.l true) _ _ _ _ c.lanes_of-then-not-masks-2.ensures c.rows_of-rows.ensures c.filtered_rows-then-not-masks-2.ensures
    (λ j low. smooth_of_eight c.args.l _ (c.masks_of-masks.ensures.narrow (is_off _ c.if-not-masks-2.true) j low)))
