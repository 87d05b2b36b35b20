use Rattle.planes.specs.Planes.{plane_map}
use Rattle.line_filter.proofs.SmallLines.{edge_range}
use Rattle.line_filter.proofs.edges.filter_edge.Goals as goal

pub returns-in-Vertical-clause-range : goal.returns-in-Vertical-clause-range
returns-in-Vertical-clause-range g c = edge_range c.args.e (plane_map c.args.plane.now) _ c.filter_vertical.ensures.map c.requires.range

pub returns-in-Horizontal-clause-range : goal.returns-in-Horizontal-clause-range
returns-in-Horizontal-clause-range g c = edge_range c.args.e (plane_map c.args.plane.now) _ c.filter_horizontal.ensures.map c.requires.range
