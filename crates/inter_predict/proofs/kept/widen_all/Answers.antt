use Rattle.std.proofs.Common.{◌∙◌, arith, get_or, map}
use Rattle.inter_predict.proofs.Values.{number_more}
use Rattle.inter_predict.proofs.kept.widen_all.Goals as goal

pub loop-k-preserved : goal.loop-k-preserved
loop-k-preserved g c = let a = c.args in let l = c.loop-k in
    number_more (λ k. get_or (map g.P.Sample.value a.samples.now) k 0) l.out l.k c.widen.result (omega arith) l.invariant (c.widen.ensures ∙ c.sample_at.ensures)
