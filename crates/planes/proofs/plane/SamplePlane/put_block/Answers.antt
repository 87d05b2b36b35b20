use Rattle.std.proofs.Common.{arith, rules, map}
use Rattle.vp9_types.specs.Maps.{rows_of}
use Rattle.planes.proofs.PlaneLemmas.{part_values}
use Rattle.planes.proofs.plane.SamplePlane.put_block.Goals as goal

pub returns-clause-map : goal.returns-clause-map
returns-clause-map g c = let a = c.args in let s = c.self.inside in let r = rw (← c.self.view_is) at c.requires.inside in
    let down = c.lower_end.ensures in let across = c.right_end.ensures in
    rw (← c.self.view_is) (part_values g.P.Sample.value s.area s.samples.items c.copy_rows.new.samples s.samples.len a.row a.column a.rows a.columns
    c.min.result c.min-2.result (rows_of a.columns (map g.P.Sample.value a.block.now)) r.above r.left (search rules) (search rules) (omega arith) (omega arith)
    (rw c.deref_mut.ensures.value at c.copy_rows.ensures))
