use Rattle.std.proofs.Common.{◌-◌}
use Rattle.planes.proofs.PlaneLemmas.{row_value}
use Rattle.planes.proofs.plane.SamplePlane.row_above.Goals as goal

pub returns-clause-samples : goal.returns-clause-samples
returns-clause-samples g c = λ j low. let a = c.args in let s = c.self.inside in
    rw (c.place_above-from.ensures, c.deref.ensures.value, ← c.self.view_is)
    (row_value g.P.Sample.value s.area s.samples.items (a.row - 1) a.column a.count (rw (← c.self.view_is) at c.requires.inside) j low)
