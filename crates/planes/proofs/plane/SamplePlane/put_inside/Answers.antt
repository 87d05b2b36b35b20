use Rattle.std.proofs.Common.{arith, rules, map}
use Rattle.vp9_types.specs.Maps.{rows_of}
use Rattle.planes.proofs.PlaneLemmas.{part_values}
use Rattle.planes.proofs.plane.SamplePlane.put_inside.Goals as goal

pub returns-clause-map : goal.returns-clause-map
returns-clause-map g c = let a = c.args in let s = c.self.inside in let r = rw (← c.self.view_is) at c.requires.inside in
    let down = rw (← c.self.view_is) at c.requires.below in let across = rw (← c.self.view_is) at c.requires.right in
    rw (← c.self.view_is) (part_values g.P.Sample.value s.area s.samples.items c.copy_columns.new.samples s.samples.len a.row a.column a.rows g.row.N a.rows g.row.N
    (rows_of g.row.N (map g.P.Sample.value a.block.now)) r.above r.left (search rules) (search rules) (omega arith) (omega arith) (rw c.deref_mut.ensures.value at c.copy_columns.ensures))
