use Rattle.std.proofs.Common.{◌+◌, ◌-◌, ◌∙◌, arith, refl, take, drop}
use Rattle.inter_predict.proofs.Values.{mid_here, copied_is}
use Rattle.inter_predict.proofs.kept.widen_part.Goals as goal

pub returns-clause-put : goal.returns-clause-put
returns-clause-put g c = λ k low. let a = c.args in
    mid_here a.at (a.at + a.n - a.at) a.out.now c.widen_all.new.out k (omega arith) (omega (arith, low))
    ∙ c.widen_all.ensures k (omega (arith, low))
    ∙ copied_is g.P.Sample.value a.samples.now (take (a.from + a.n - a.from) (drop a.from a.samples.now)) a.from a.n k refl low
