use Rattle.loop_filter.proofs.Sides.{in_limits, in_depth, kept_in_limits}
use Rattle.loop_filter.proofs.PlannedEdges.{side_planned, middle_planned}
use Rattle.loop_filter.proofs.cells.filter_cell.Goals as goal

pub filter_edges-requires-clause-side : goal.filter_edges-requires-clause-side
filter_edges-requires-clause-side g c = let a = c.args in
    rw c.edges_in-edges.ensures (side_planned a.f.now.setting a.way a.samples.now.area c.limits-limits.result a.cell.now c.requires.cell)

pub filter_edges-requires-clause-middle : goal.filter_edges-requires-clause-middle
filter_edges-requires-clause-middle g c = let a = c.args in
    rw c.edges_in-edges.ensures (middle_planned a.f.now.setting a.way a.samples.now.area c.limits-limits.result a.cell.now c.requires.cell)

pub filter_edges-requires-clause-kept : goal.filter_edges-requires-clause-kept
filter_edges-requires-clause-kept g c = let f = c.args.f.now.setting in
    kept_in_limits f.shape.depth f.filter.sharpness c.args.cell.now.level c.limits-limits.result _ c.limits-limits.ensures.value c.requires.kept

pub filter_edges-requires-clause-range : goal.filter_edges-requires-clause-range
filter_edges-requires-clause-range g c = let f = c.args.f.now.setting in
    in_limits f.shape.depth f.filter.sharpness c.args.cell.now.level c.limits-limits.result _ c.limits-limits.ensures.value c.requires.range

pub returns-then-is_some-clause-range : goal.returns-then-is_some-clause-range
returns-then-is_some-clause-range g c = let f = c.args.f.now.setting in
    in_depth f.shape.depth f.filter.sharpness c.args.cell.now.level c.limits-limits.result _ c.limits-limits.ensures.value c.filter_edges.ensures.range
