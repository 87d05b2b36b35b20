use Rattle.std.proofs.Common.{◌∙◌, map}
use Rattle.planes.proofs.PlaneLemmas.{column_sample}
use Rattle.planes.proofs.plane.SamplePlane.read_column.Goals as goal

pub returns-clause-read : goal.returns-clause-read
returns-clause-read g c = λ i low. let a = c.args in let s = c.self.inside in let r = rw (← c.self.view_is) at c.requires.inside in
    c.read_apart.ensures.read i low
    ∙ rw (c.deref.ensures.value, c.place_of-at.ensures, ← c.self.view_is)
    (column_sample s.area (map g.P.Sample.value s.samples.items) a.row a.column i r.above r.left r.right)
