use Rattle.planes.specs.Planes.{lower_end, right_end, plane_map}
use Rattle.intra_predict.proofs.Bounds.{edges_small}
use Rattle.intra_predict.proofs.reading.read_edges.Goals as goal

pub returns-in-T4x4-clause-small : goal.returns-in-T4x4-clause-small
returns-in-T4x4-clause-small g c = λ small. let a = c.args in let p = a.plane.now in
    rw (c.in-T4x4.is, c.read_sized.ensures) (edges_small (right_end p.area) (lower_end p.area) 4 a.place.now a.depth (plane_map p) small)

pub returns-in-T8x8-clause-small : goal.returns-in-T8x8-clause-small
returns-in-T8x8-clause-small g c = λ small. let a = c.args in let p = a.plane.now in
    rw (c.in-T8x8.is, c.read_sized-in-T8x8.ensures) (edges_small (right_end p.area) (lower_end p.area) 8 a.place.now a.depth (plane_map p) small)

pub returns-in-T16x16-clause-small : goal.returns-in-T16x16-clause-small
returns-in-T16x16-clause-small g c = λ small. let a = c.args in let p = a.plane.now in
    rw (c.in-T16x16.is, c.read_sized-in-T16x16.ensures) (edges_small (right_end p.area) (lower_end p.area) 16 a.place.now a.depth (plane_map p) small)

pub returns-in-T32x32-clause-small : goal.returns-in-T32x32-clause-small
returns-in-T32x32-clause-small g c = λ small. let a = c.args in let p = a.plane.now in
    rw (c.in-T32x32.is, c.read_sized-in-T32x32.ensures) (edges_small (right_end p.area) (lower_end p.area) 32 a.place.now a.depth (plane_map p) small)
