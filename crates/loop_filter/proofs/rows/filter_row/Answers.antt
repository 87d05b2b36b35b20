use Rattle.std.proofs.Common.{arith}
use Rattle.std.proofs.lemmas.Bool.Decides.{nat_tests}
use Rattle.planes.specs.Planes.{plane_map}
use Rattle.loop_filter.proofs.Walks.{no_edges}
use Rattle.loop_filter.proofs.rows.filter_row.Goals as goal

pub returns-else-f-gt0-clause-map : goal.returns-else-f-gt0-clause-map
returns-else-f-gt0-clause-map g c = let p = c.args.planes.now in
    no_edges c.args.f.now (g.N.Neighbours.blocks c.args.blocks.now) c.args.sr (plane_map p.y) (plane_map p.u) (plane_map p.v)
    (let none = c.if-f-gt0.false in grind (arith, nat_tests))
