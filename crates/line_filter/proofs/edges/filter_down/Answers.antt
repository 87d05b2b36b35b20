use Rattle.std.proofs.Common.{◌+◌, arith, refl}
use Rattle.planes.specs.Planes.{plane_map}
use Rattle.line_filter.specs.Lines.{filtered_near}
use Rattle.line_filter.specs.FilteredEdges.{line_down, nth_of_line}
use Rattle.line_filter.specs.Code.{down_filtered}
use Rattle.line_filter.proofs.LineBlocks.{near_small, near_filtered, lanes_at_most}
use Rattle.line_filter.proofs.SmallLines.{is_small, near_fits}
use Rattle.line_filter.proofs.edges.filter_down.Goals as goal

pub filtered_by-lanes-requires-clause-small : goal.filtered_by-lanes-requires-clause-small
filtered_by-lanes-requires-clause-small g c =
    near_small c.lanes_at-lanes.result _ c.lanes_at-lanes.ensures (λ i j. is_small c.args.l.half _ c.requires.half c.requires.range _ _)

pub put_known-requires-clause-fits : goal.put_known-requires-clause-fits
put_known-requires-clause-fits g c = let a = c.args in
    lanes_at_most _ c.filtered_by-lanes.result _
    (near_filtered c.lanes_at-lanes.result _ _ (λ j y. plane_map a.plane.now y (a.column + j)) a.row (filtered_near a.l a.wide) (omega (arith, c.requires.inside.above)) c.lanes_at-lanes.ensures (λ i j. refl) c.filtered_by-lanes.ensures)
    (λ i j. near_fits _ a.l a.wide 4 a.row (λ y. plane_map a.plane.now y (a.column + j)) c.requires.fits (λ y. c.requires.range y (a.column + j)) i)

pub returns-clause-map : goal.returns-clause-map
unfolding down_filtered
returns-clause-map g c = let a = c.args in
    c.put_known.ensures.map (λ i j. nth_of_line 4 (filtered_near a.l a.wide (line_down 4 (plane_map a.plane.now) a.row (a.column + j))) i)
    (near_filtered c.lanes_at-lanes.result _ _ (λ j y. plane_map a.plane.now y (a.column + j)) a.row (filtered_near a.l a.wide) (omega (arith, c.requires.inside.above)) c.lanes_at-lanes.ensures (λ i j. refl) c.filtered_by-lanes.ensures)
