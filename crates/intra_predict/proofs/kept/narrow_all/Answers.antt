use Rattle.std.proofs.Common.{arith}
use Rattle.intra_predict.proofs.KeptLemmas.{all_set, one_set}
use Rattle.intra_predict.proofs.kept.narrow_all.Goals as goal

pub loop-k-preserved : goal.loop-k-preserved
loop-k-preserved g c = let a = c.args in
    one_set g.P.Sample.value c.loop-k.to a.from.now c.loop-k.k c.narrow.result (omega arith) c.narrow.ensures c.loop-k.invariant

pub returns : goal.returns
returns g c = all_set g.P.Sample.value c.loop-k.to c.args.from.now c.loop-k.k (omega arith) (omega arith) c.loop-k.invariant
