use Rattle.std.proofs.Common.{◌∙◌}
use Rattle.std.proofs.lemmas.List.{map-id}
use Rattle.planes.specs.Planes.{plane_map}
use Rattle.line_filter.proofs.SquareLemmas.{part_same}
use Rattle.line_filter.proofs.kept.U8EdgeSample.put_lanes.Goals as goal

pub returns-clause-map : goal.returns-clause-map
returns-clause-map c = λ f so. let a = c.args in
    c.put_square.ensures.map ∙ rw (map-id c.flat_bytes.result) (part_same a.plane.now.area (plane_map a.plane.now) a.row a.column _ f (c.flat_bytes.ensures f so))
