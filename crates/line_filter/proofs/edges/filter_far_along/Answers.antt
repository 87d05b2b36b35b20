use Rattle.std.proofs.Common.{◌+◌, ◌≤◌, arith, refl, true}
use Rattle.vp9_types.specs.Maps.{Map}
use Rattle.planes.specs.Planes.{plane_map}
use Rattle.line_filter.specs.declared.edge.FilterWidth.TheVariants.{Sixteen}
use Rattle.line_filter.specs.Lines.{filter_mask, filtered_line, filtered_near}
use Rattle.line_filter.specs.FilteredEdges.{line_along, nth_of_line}
use Rattle.line_filter.specs.Code.{is_flat_far, along_filtered}
use Rattle.line_filter.proofs.LineBlocks.{near_small, near_filtered, between_small, far_small, far_filtered, turned_lanes, turned_by, upper_of_lines, lower_of_lines, lanes_at_most, put_beside}
use Rattle.line_filter.proofs.KeptLines.{along_kept, along_near, four_along, off_along, is_off, between_by}
use Rattle.line_filter.proofs.SmallLines.{is_small, near_fits, far_fits}
use Rattle.line_filter.proofs.edges.filter_far_along.Goals as goal

pub far_masks-masks-requires : goal.far_masks-masks-requires
far_masks-masks-requires g c = let a = c.args in record {
  near = rw (c.turned-left.ensures, c.turned-right.ensures)
      (between_small _ _ _ _ (turned_lanes _ _ c.beside.ensures.left) (turned_lanes _ _ c.beside.ensures.right) (λ i j. is_small a.l.half _ c.requires.half c.requires.range _ _) (λ i j. is_small a.l.half _ c.requires.half c.requires.range _ _));
}

pub returns-then-not-masks-clause-map : goal.returns-then-not-masks-clause-map
returns-then-not-masks-clause-map g c = let a = c.args in let m : Map = plane_map a.plane.now in
    let inside : 8 ≤ a.column = omega (arith, c.requires.inside.left) in
    along_kept a.l a.plane.now.area m a.row a.column inside
    (off_along c.turned-left.result c.turned-right.result m a.row a.column (filter_mask a.l) inside (turned_by _ _ _ c.turned-left.ensures c.beside.ensures.left)
    (turned_by _ _ _ c.turned-right.ensures c.beside.ensures.right) (c.far_masks-masks.ensures.calm (is_off _ c.if-not-masks.true)))

pub filtered_by-near-requires-clause-small : goal.filtered_by-near-requires-clause-small
filtered_by-near-requires-clause-small g c = let a = c.args in let m : Map = plane_map a.plane.now in
    near_small c.between.result _
    (between_by c.turned-left.result c.turned-right.result c.between.result (λ j. m (a.row + j)) a.column (omega (arith, c.requires.inside.left)) c.between.ensures (turned_by _ _ _ c.turned-left.ensures c.beside.ensures.left) (turned_by _ _ _ c.turned-right.ensures c.beside.ensures.right))
    (λ i j. is_small a.l.half _ c.requires.half c.requires.range _ _)

pub put_known-requires-clause-fits : goal.put_known-requires-clause-fits
put_known-requires-clause-fits g c = let a = c.args in let m : Map = plane_map a.plane.now in
    lanes_at_most _ c.turned.result _
    (turned_by c.filtered_by-near.result c.turned.result _ c.turned.ensures
    (near_filtered c.between.result _ _ (λ j. m (a.row + j)) a.column (filtered_near a.l true) (omega (arith, c.requires.inside.left))
    (between_by c.turned-left.result c.turned-right.result c.between.result (λ j. m (a.row + j)) a.column (omega (arith, c.requires.inside.left)) c.between.ensures (turned_by _ _ _ c.turned-left.ensures c.beside.ensures.left) (turned_by _ _ _ c.turned-right.ensures c.beside.ensures.right)) (λ i j. refl) c.filtered_by-near.ensures))
    (λ i j. near_fits _ a.l true 4 a.column (m (a.row + i)) c.requires.fits (c.requires.range (a.row + i)) j)

pub returns-then-not-masks-2-clause-map : goal.returns-then-not-masks-2-clause-map
returns-then-not-masks-2-clause-map g c = let a = c.args in let m : Map = plane_map a.plane.now in
    let inside : 8 ≤ a.column = omega (arith, c.requires.inside.left) in
    along_near a.l a.plane.now.area m _ a.row a.column inside c.requires.inside.right
    (off_along c.turned-left.result c.turned-right.result m a.row a.column (is_flat_far a.l) inside (turned_by _ _ _ c.turned-left.ensures c.beside.ensures.left)
    (turned_by _ _ _ c.turned-right.ensures c.beside.ensures.right) (c.far_masks-masks.ensures.flat (is_off _ c.if-not-masks-2.true)))
    (four_along a.l a.plane.now.area m _ a.row a.column (c.put_known.ensures.map (λ i j. nth_of_line 4 (filtered_near a.l true (line_along 4 m (a.row + i) a.column)) j)
    (turned_by c.filtered_by-near.result c.turned.result _ c.turned.ensures
    (near_filtered c.between.result _ _ (λ j. m (a.row + j)) a.column (filtered_near a.l true) (omega (arith, c.requires.inside.left))
    (between_by c.turned-left.result c.turned-right.result c.between.result (λ j. m (a.row + j)) a.column (omega (arith, c.requires.inside.left)) c.between.ensures (turned_by _ _ _ c.turned-left.ensures c.beside.ensures.left) (turned_by _ _ _ c.turned-right.ensures c.beside.ensures.right)) (λ i j. refl) c.filtered_by-near.ensures))))

pub filtered_far_lanes-requires-clause-near : goal.filtered_far_lanes-requires-clause-near
filtered_far_lanes-requires-clause-near g c = let a = c.args in rw (c.turned-left.ensures, c.turned-right.ensures)
    (between_small _ _ _ _ (turned_lanes _ _ c.beside.ensures.left) (turned_lanes _ _ c.beside.ensures.right) (λ i j. is_small a.l.half _ c.requires.half c.requires.range _ _) (λ i j. is_small a.l.half _ c.requires.half c.requires.range _ _))

pub filtered_far_lanes-requires-clause-far : goal.filtered_far_lanes-requires-clause-far
filtered_far_lanes-requires-clause-far g c = let a = c.args in rw (c.turned-left.ensures, c.turned-right.ensures)
    (far_small _ _ _ _ (turned_lanes _ _ c.beside.ensures.left) (turned_lanes _ _ c.beside.ensures.right) (λ i j. is_small a.l.half _ c.requires.half c.requires.range _ _) (λ i j. is_small a.l.half _ c.requires.half c.requires.range _ _))

pub put_known-requires-2-clause-fits : goal.put_known-requires-2-clause-fits
put_known-requires-2-clause-fits g c = let a = c.args in let m : Map = plane_map a.plane.now in
    lanes_at_most _ _ _ (turned_by _ _ _ c.turned-2.ensures (upper_of_lines _ _ _ (far_filtered _ _ _ _ _ _ (λ j. m (a.row + j)) a.column (filtered_line a.l Sixteen) (omega (arith, c.requires.inside.left)) (turned_by _ _ _ c.turned-left.ensures c.beside.ensures.left) (turned_by _ _ _ c.turned-right.ensures c.beside.ensures.right) (λ i j. refl) (λ i j. refl) c.filtered_far_lanes.ensures)))
    (λ i j. far_fits _ a.l 8 a.column (m (a.row + i)) c.requires.fits (c.requires.range (a.row + i)) j)

pub put_known-requires-3-clause-fits : goal.put_known-requires-3-clause-fits
put_known-requires-3-clause-fits g c = let a = c.args in let m : Map = plane_map a.plane.now in
    lanes_at_most _ _ _ (turned_by _ _ _ c.turned-3.ensures (lower_of_lines _ _ _ (far_filtered _ _ _ _ _ _ (λ j. m (a.row + j)) a.column (filtered_line a.l Sixteen) (omega (arith, c.requires.inside.left)) (turned_by _ _ _ c.turned-left.ensures c.beside.ensures.left) (turned_by _ _ _ c.turned-right.ensures c.beside.ensures.right) (λ i j. refl) (λ i j. refl) c.filtered_far_lanes.ensures)))
    (λ i j. far_fits _ a.l 8 a.column (m (a.row + i)) c.requires.fits (c.requires.range (a.row + i)) (8 + j))

pub returns-clause-map : goal.returns-clause-map
unfolding along_filtered
returns-clause-map g c = let a = c.args in
    let m : Map = plane_map a.plane.now in
    let h : Map = λ i j. nth_of_line 8 (filtered_line a.l Sixteen (line_along 8 m (a.row + i) a.column)) j in
    let lines = far_filtered _ _ _ _ _ _ (λ j. m (a.row + j)) a.column (filtered_line a.l Sixteen) (omega (arith, c.requires.inside.left)) (turned_by _ _ _ c.turned-left.ensures c.beside.ensures.left) (turned_by _ _ _ c.turned-right.ensures c.beside.ensures.right) (λ i j. refl) (λ i j. refl) c.filtered_far_lanes.ensures in
    put_beside a.plane.now.area c.put_known-2.new.plane.area m (plane_map c.put_known-2.new.plane) (plane_map c.put_known-3.new.plane) h a.row a.column
    (omega (arith, c.requires.inside.left)) c.requires.inside.right c.put_known-2.ensures.area
    (c.put_known-2.ensures.map h (turned_by _ _ _ c.turned-2.ensures (upper_of_lines _ _ _ lines)))
    (c.put_known-3.ensures.map (λ i j. h i (8 + j)) (turned_by _ _ _ c.turned-3.ensures (lower_of_lines _ _ _ lines)))
