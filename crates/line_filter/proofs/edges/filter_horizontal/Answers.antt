use Rattle.std.proofs.Common.{ap, sym, ◌∙◌, refl, true, false}
use Rattle.planes.specs.Planes.{plane_map}
use Rattle.line_filter.specs.declared.edge.FilterWidth.TheVariants.{Sixteen}
use Rattle.line_filter.specs.Lines.{filtered_near, filtered_line}
use Rattle.line_filter.specs.FilteredEdges.{reach}
use Rattle.line_filter.proofs.EdgeLines.{edge_down, line_four, line_eight}
use Rattle.line_filter.proofs.edges.filter_horizontal.Goals as goal

pub returns-in-Four-clause-map : goal.returns-in-Four-clause-map
returns-in-Four-clause-map g c = let a = c.args in
    edge_down a.e a.plane.now.area (plane_map a.plane.now) _ (filtered_near a.e.limits false) 4 c.requires.pass c.requires.inside
    (line_four a.e.limits ∙ ap (filtered_line a.e.limits) (sym c.in-Four.is)) (ap reach (sym c.in-Four.is)) c.filter_down.ensures.map

pub returns-in-Eight-clause-map : goal.returns-in-Eight-clause-map
returns-in-Eight-clause-map g c = let a = c.args in
    edge_down a.e a.plane.now.area (plane_map a.plane.now) _ (filtered_near a.e.limits true) 4 c.requires.pass c.requires.inside
    (line_eight a.e.limits ∙ ap (filtered_line a.e.limits) (sym c.in-Eight.is)) (ap reach (sym c.in-Eight.is)) c.filter_down-in-Eight.ensures.map

pub returns-in-Sixteen-clause-map : goal.returns-in-Sixteen-clause-map
returns-in-Sixteen-clause-map g c = let a = c.args in
    edge_down a.e a.plane.now.area (plane_map a.plane.now) _ (filtered_line a.e.limits Sixteen) 8 c.requires.pass c.requires.inside
    (refl ∙ ap (filtered_line a.e.limits) (sym c.in-Sixteen.is)) (ap reach (sym c.in-Sixteen.is)) c.filter_far_down.ensures.map
