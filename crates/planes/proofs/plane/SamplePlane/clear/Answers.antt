use Rattle.std.proofs.Common.{◌∙◌, ap, length, rules}
use Rattle.planes.proofs.PlaneLemmas.{cleared}
use Rattle.planes.proofs.plane.SamplePlane.clear.Goals as goal

pub returns-clause-zero : goal.returns-clause-zero
returns-clause-zero g c = let s = c.self.inside in
    cleared g.P.Sample.value s.area s.samples.items c.clear.new.samples s.samples.len _ (search rules) (c.clear.ensures.long ∙ ap length c.deref_mut.ensures.value) c.clear.ensures.zero
