use Rattle.std.proofs.Common.{arith}
use Rattle.planes.specs.Planes.{lower_end, right_end, plane_map}
use Rattle.intra_predict.proofs.EdgeLemmas.{edges_are}
use Rattle.intra_predict.proofs.reading.read_sized.Goals as goal

pub returns : goal.returns
returns g c = let a = c.args in let p = a.plane.now in
    edges_are (right_end p.area) (lower_end p.area) g.row.N a.place.now a.depth (plane_map p) c.read_above.new.above c.read_left.new.left c.read_corner-edges.result
    (omega arith) (omega arith) c.read_above.ensures c.read_left.ensures c.read_corner-edges.ensures
