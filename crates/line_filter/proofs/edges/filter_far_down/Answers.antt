use Rattle.std.proofs.Common.{◌+◌, ◌≤◌, arith, refl, true}
use Rattle.vp9_types.specs.Maps.{Map}
use Rattle.planes.specs.Planes.{plane_map}
use Rattle.line_filter.specs.declared.edge.FilterWidth.TheVariants.{Sixteen}
use Rattle.line_filter.specs.Lines.{filter_mask, filtered_line, filtered_near}
use Rattle.line_filter.specs.FilteredEdges.{line_down, nth_of_line}
use Rattle.line_filter.specs.Code.{is_flat_far, down_filtered}
use Rattle.line_filter.proofs.LineBlocks.{near_small, near_filtered, between_small, far_small, far_filtered, upper_of_lines, lower_of_lines, lanes_at_most, put_below}
use Rattle.line_filter.proofs.KeptLines.{down_kept, down_near, four_down, off_down, is_off, between_by}
use Rattle.line_filter.proofs.SmallLines.{is_small, near_fits, far_fits}
use Rattle.line_filter.proofs.edges.filter_far_down.Goals as goal

pub far_masks-masks-requires : goal.far_masks-masks-requires
far_masks-masks-requires g c = let a = c.args in
    record { near = between_small _ _ _ _ c.around.ensures.above c.around.ensures.below (λ i j. is_small a.l.half _ c.requires.half c.requires.range _ _) (λ i j. is_small a.l.half _ c.requires.half c.requires.range _ _) }

pub returns-then-not-masks-clause-map : goal.returns-then-not-masks-clause-map
returns-then-not-masks-clause-map g c = let a = c.args in let m : Map = plane_map a.plane.now in
    let inside : 8 ≤ a.row = omega (arith, c.requires.inside.above) in
    down_kept a.l a.plane.now.area m a.row a.column inside
    (off_down c.around.result.0 c.around.result.1 m a.row a.column (filter_mask a.l) inside c.around.ensures.above c.around.ensures.below (c.far_masks-masks.ensures.calm (is_off _ c.if-not-masks.true)))

pub filtered_by-near-requires-clause-small : goal.filtered_by-near-requires-clause-small
filtered_by-near-requires-clause-small g c = let a = c.args in let m : Map = plane_map a.plane.now in
    near_small c.between.result _
    (between_by c.around.result.0 c.around.result.1 c.between.result (λ j y. m y (a.column + j)) a.row (omega (arith, c.requires.inside.above)) c.between.ensures c.around.ensures.above c.around.ensures.below)
    (λ i j. is_small a.l.half _ c.requires.half c.requires.range _ _)

pub put_known-requires-clause-fits : goal.put_known-requires-clause-fits
put_known-requires-clause-fits g c = let a = c.args in let m : Map = plane_map a.plane.now in
    lanes_at_most _ c.filtered_by-near.result _
    (near_filtered c.between.result _ _ (λ j y. m y (a.column + j)) a.row (filtered_near a.l true) (omega (arith, c.requires.inside.above))
    (between_by c.around.result.0 c.around.result.1 c.between.result (λ j y. m y (a.column + j)) a.row (omega (arith, c.requires.inside.above)) c.between.ensures c.around.ensures.above c.around.ensures.below) (λ i j. refl) c.filtered_by-near.ensures)
    (λ i j. near_fits _ a.l true 4 a.row (λ y. m y (a.column + j)) c.requires.fits (λ y. c.requires.range y (a.column + j)) i)

pub returns-then-not-masks-2-clause-map : goal.returns-then-not-masks-2-clause-map
returns-then-not-masks-2-clause-map g c = let a = c.args in let m : Map = plane_map a.plane.now in
    let inside : 8 ≤ a.row = omega (arith, c.requires.inside.above) in
    down_near a.l a.plane.now.area m _ a.row a.column inside c.requires.inside.below
    (off_down c.around.result.0 c.around.result.1 m a.row a.column (is_flat_far a.l) inside c.around.ensures.above c.around.ensures.below (c.far_masks-masks.ensures.flat (is_off _ c.if-not-masks-2.true)))
    (four_down a.l a.plane.now.area m _ a.row a.column (c.put_known.ensures.map (λ i j. nth_of_line 4 (filtered_near a.l true (line_down 4 m a.row (a.column + j))) i)
    (near_filtered c.between.result _ _ (λ j y. m y (a.column + j)) a.row (filtered_near a.l true) (omega (arith, c.requires.inside.above))
    (between_by c.around.result.0 c.around.result.1 c.between.result (λ j y. m y (a.column + j)) a.row (omega (arith, c.requires.inside.above)) c.between.ensures c.around.ensures.above c.around.ensures.below) (λ i j. refl) c.filtered_by-near.ensures)))

pub filtered_far_lanes-requires-clause-near : goal.filtered_far_lanes-requires-clause-near
filtered_far_lanes-requires-clause-near g c = let a = c.args in
    between_small _ _ _ _ c.around.ensures.above c.around.ensures.below (λ i j. is_small a.l.half _ c.requires.half c.requires.range _ _) (λ i j. is_small a.l.half _ c.requires.half c.requires.range _ _)

pub filtered_far_lanes-requires-clause-far : goal.filtered_far_lanes-requires-clause-far
filtered_far_lanes-requires-clause-far g c = let a = c.args in
    far_small _ _ _ _ c.around.ensures.above c.around.ensures.below (λ i j. is_small a.l.half _ c.requires.half c.requires.range _ _) (λ i j. is_small a.l.half _ c.requires.half c.requires.range _ _)

pub put_known-requires-2-clause-fits : goal.put_known-requires-2-clause-fits
put_known-requires-2-clause-fits g c = let a = c.args in let m : Map = plane_map a.plane.now in
    lanes_at_most _ _ _ (upper_of_lines _ _ _ (far_filtered _ _ _ _ _ _ (λ j y. m y (a.column + j)) a.row (filtered_line a.l Sixteen) (omega (arith, c.requires.inside.above)) c.around.ensures.above c.around.ensures.below (λ i j. refl) (λ i j. refl) c.filtered_far_lanes.ensures))
    (λ i j. far_fits _ a.l 8 a.row (λ y. m y (a.column + j)) c.requires.fits (λ y. c.requires.range y (a.column + j)) i)

pub put_known-requires-3-clause-fits : goal.put_known-requires-3-clause-fits
put_known-requires-3-clause-fits g c = let a = c.args in let m : Map = plane_map a.plane.now in
    lanes_at_most _ _ _ (lower_of_lines _ _ _ (far_filtered _ _ _ _ _ _ (λ j y. m y (a.column + j)) a.row (filtered_line a.l Sixteen) (omega (arith, c.requires.inside.above)) c.around.ensures.above c.around.ensures.below (λ i j. refl) (λ i j. refl) c.filtered_far_lanes.ensures))
    (λ i j. far_fits _ a.l 8 a.row (λ y. m y (a.column + j)) c.requires.fits (λ y. c.requires.range y (a.column + j)) (8 + i))

pub returns-clause-map : goal.returns-clause-map
unfolding down_filtered
returns-clause-map g c = let a = c.args in
    let m : Map = plane_map a.plane.now in
    let h : Map = λ i j. nth_of_line 8 (filtered_line a.l Sixteen (line_down 8 m a.row (a.column + j))) i in
    let lines = far_filtered _ _ _ _ _ _ (λ j y. m y (a.column + j)) a.row (filtered_line a.l Sixteen) (omega (arith, c.requires.inside.above)) c.around.ensures.above c.around.ensures.below (λ i j. refl) (λ i j. refl) c.filtered_far_lanes.ensures in
    put_below a.plane.now.area c.put_known-2.new.plane.area m (plane_map c.put_known-2.new.plane) (plane_map c.put_known-3.new.plane) h a.row a.column
    (omega (arith, c.requires.inside.above)) c.requires.inside.below c.put_known-2.ensures.area
    (c.put_known-2.ensures.map h (upper_of_lines _ _ _ lines)) (c.put_known-3.ensures.map (λ i j. h (8 + i) j) (lower_of_lines _ _ _ lines))
