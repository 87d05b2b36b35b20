use Rattle.std.proofs.Common.{arith, rules, map}
use Rattle.planes.proofs.PlaneLemmas.{part_values}
use Rattle.planes.proofs.plane.SamplePlane.put_made.Goals as goal

pub returns-clause-map : goal.returns-clause-map
returns-clause-map g c = let a = c.args in let s = c.self.inside in let r = rw (← c.self.view_is) at c.requires.inside in
    let down = rw (← c.self.view_is) at c.requires.below in let across = rw (← c.self.view_is) at c.requires.right in
    rw (← c.self.view_is) (part_values g.P.Sample.value s.area s.samples.items c.make_rows.new.samples s.samples.len a.row a.column a.rows g.row.N a.rows g.row.N
    (g.M.RowMaker.made a.maker.now) r.above r.left (search rules) (search rules) (omega arith) (omega arith) (rw c.deref_mut.ensures.value at c.make_rows.ensures))
