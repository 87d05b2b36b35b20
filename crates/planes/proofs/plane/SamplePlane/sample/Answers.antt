use Rattle.std.proofs.Common.{◌∙◌, ap}
use Rattle.planes.proofs.PlaneLemmas.{sample_value}
use Rattle.planes.proofs.plane.SamplePlane.sample.Goals as goal

pub returns : goal.returns
returns g c = let a = c.args in let s = c.self.inside in let f = g.P.Sample.value in
    c.widen.ensures ∙ ap f c.index.ensures
    ∙ rw (c.place_of.ensures, ← c.self.view_is)
    (sample_value f s.area s.samples.items _ a.row a.column (rw (← c.self.view_is) at c.requires) c.self.invariant.1)
