use Rattle.std.proofs.Common.{◌+◌, arith, refl}
use Rattle.planes.specs.Planes.{plane_map}
use Rattle.line_filter.specs.Lines.{filtered_near}
use Rattle.line_filter.specs.FilteredEdges.{line_along, nth_of_line}
use Rattle.line_filter.specs.Code.{along_filtered}
use Rattle.line_filter.proofs.LineBlocks.{near_small, near_filtered, turned_by, lanes_at_most}
use Rattle.line_filter.proofs.SmallLines.{is_small, near_fits}
use Rattle.line_filter.proofs.edges.filter_along.Goals as goal

pub filtered_by-lanes-requires-clause-small : goal.filtered_by-lanes-requires-clause-small
filtered_by-lanes-requires-clause-small g c =
    near_small c.turned-lanes.result _ (turned_by c.lanes_at.result c.turned-lanes.result _ c.turned-lanes.ensures c.lanes_at.ensures) (λ i j. is_small c.args.l.half _ c.requires.half c.requires.range _ _)

pub put_known-requires-clause-fits : goal.put_known-requires-clause-fits
put_known-requires-clause-fits g c = let a = c.args in
    lanes_at_most _ c.turned.result _
    (turned_by c.filtered_by-lanes.result c.turned.result _ c.turned.ensures
    (near_filtered c.turned-lanes.result _ _ (λ j. plane_map a.plane.now (a.row + j)) a.column (filtered_near a.l a.wide) (omega (arith, c.requires.inside.left)) (turned_by c.lanes_at.result c.turned-lanes.result _ c.turned-lanes.ensures c.lanes_at.ensures) (λ i j. refl) c.filtered_by-lanes.ensures))
    (λ i j. near_fits _ a.l a.wide 4 a.column (plane_map a.plane.now (a.row + i)) c.requires.fits (c.requires.range (a.row + i)) j)

pub returns-clause-map : goal.returns-clause-map
unfolding along_filtered
returns-clause-map g c = let a = c.args in
    c.put_known.ensures.map (λ i j. nth_of_line 4 (filtered_near a.l a.wide (line_along 4 (plane_map a.plane.now) (a.row + i) a.column)) j)
    (turned_by c.filtered_by-lanes.result c.turned.result _ c.turned.ensures
    (near_filtered c.turned-lanes.result _ _ (λ j. plane_map a.plane.now (a.row + j)) a.column (filtered_near a.l a.wide) (omega (arith, c.requires.inside.left)) (turned_by c.lanes_at.result c.turned-lanes.result _ c.turned-lanes.ensures c.lanes_at.ensures) (λ i j. refl) c.filtered_by-lanes.ensures))
