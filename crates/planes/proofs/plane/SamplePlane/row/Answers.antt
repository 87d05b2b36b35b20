use Rattle.planes.proofs.PlaneLemmas.{row_values, row_value}
use Rattle.planes.proofs.plane.SamplePlane.row.Goals as goal

pub returns-clause-value : goal.returns-clause-value
returns-clause-value g c = let a = c.args in let s = c.self.inside in
    rw (c.place_of-at.ensures, c.deref.ensures.value, ← c.self.view_is)
    (row_values g.P.Sample.value s.area s.samples.items a.row a.column a.count (rw (← c.self.view_is) at c.requires) c.self.invariant.1)

pub returns-clause-samples : goal.returns-clause-samples
returns-clause-samples g c = λ j low. let a = c.args in let s = c.self.inside in
    rw (c.place_of-at.ensures, c.deref.ensures.value, ← c.self.view_is)
    (row_value g.P.Sample.value s.area s.samples.items a.row a.column a.count (rw (← c.self.view_is) at c.requires) j low)
