use Rattle.std.proofs.Common.{arith, map}
use Rattle.std.proofs.lemmas.List.{map-set, length-map}
use Rattle.inter_predict.proofs.Values.{numbers_small}
use Rattle.picture_tests.proofs.inter.put.Goals as goal

pub returns : goal.returns
returns g c = λ most low small k. let a = c.args in let v = g.P.Sample.value in
    rw (map-set v a.samples.now a.at c.narrow.result)
    (numbers_small most (map v a.samples.now) a.at (v c.narrow.result) (omega (arith, c.requires.inside, length-map a.samples.now v)) small (rw c.narrow.ensures low) k)
