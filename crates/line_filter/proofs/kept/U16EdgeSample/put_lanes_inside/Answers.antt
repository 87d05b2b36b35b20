use Rattle.std.proofs.Common.{◌∙◌}
use Rattle.planes.specs.Planes.{plane_map}
use Rattle.line_filter.proofs.SquareLemmas.{lane_is, lane_small, part_same}
use Rattle.line_filter.proofs.kept.U16EdgeSample.put_lanes_inside.Goals as goal

pub put_made-requires-clause-makes : goal.put_made-requires-clause-makes
put_made-requires-clause-makes c = λ i low. lane_small 65535 c.args.x.now c.requires.fits i low

pub returns-clause-map : goal.returns-clause-map
returns-clause-map c = λ f so. let a = c.args in
    c.put_made.ensures.map ∙ part_same a.plane.now.area (plane_map a.plane.now) a.row a.column _ f (lane_is a.x.now f so)
