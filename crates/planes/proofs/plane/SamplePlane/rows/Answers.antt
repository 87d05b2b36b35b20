use Rattle.planes.proofs.PlaneLemmas.{rows_fit, rows_are}
use Rattle.planes.proofs.plane.SamplePlane.rows.Goals as goal

pub slice_bounds-result-end : goal.slice_bounds-result-end
slice_bounds-result-end g c = let a = c.args in let s = c.self.inside in
    rw (c.place_of-at.ensures, c.deref.ensures.value)
    (rows_fit s.area a.row a.count _ c.requires.some (rw (← c.self.view_is) at c.requires.inside) c.self.invariant.1)

pub returns : goal.returns
returns g c = let a = c.args in let s = c.self.inside in
    rw (c.place_of-at.ensures, c.deref.ensures.value, ← c.self.view_is)
    (rows_are g.P.Sample.value s.area s.samples.items a.row a.count c.self.invariant.0 c.requires.some (rw (← c.self.view_is) at c.requires.inside) c.self.invariant.1)
