use Rattle.planes.proofs.PlaneLemmas.{part_fits, part_sample}
use Rattle.planes.proofs.plane.SamplePlane.part.Goals as goal

pub slice_bounds-result-end : goal.slice_bounds-result-end
slice_bounds-result-end g c = let a = c.args in let s = c.self.inside in let r = rw (← c.self.view_is) at c.requires in
    rw (c.place_of-at.ensures, c.deref.ensures.value)
    (part_fits s.area a.row a.column a.rows a.columns _ r.inside r.some r.below r.right c.self.invariant.1)

pub returns-clause-samples : goal.returns-clause-samples
returns-clause-samples g c = λ i j high low. let a = c.args in let s = c.self.inside in let r = rw (← c.self.view_is) at c.requires in
    rw (c.place_of-at.ensures, c.deref.ensures.value, ← c.self.view_is)
    (part_sample g.P.Sample.value s.area s.samples.items a.row a.column a.rows a.columns r.inside r.right i j high low)
