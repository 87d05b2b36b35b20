use Rattle.std.proofs.Common.{◌∙◌, map}
use Rattle.std.proofs.lemmas.List.{length-map}
use Rattle.planes.proofs.PlaneLemmas.{below_zero}
use Rattle.planes.proofs.plane.SamplePlane.zero_below.Goals as goal

pub returns : goal.returns
returns g c = let s = c.self.inside in let f = g.P.Sample.value in
    rw (← c.self.view_is) (below_zero s.area (map f s.samples.items) (length-map s.samples.items f ∙ c.self.invariant.1))
