use Rattle.std.proofs.Common.{◌-◌, arith}
use Rattle.inter_predict.proofs.Agree.{place_below}
use Rattle.picture_tests.proofs.inter.sum_of.Goals as goal

pub predict-requires-clause-held : goal.predict-requires-clause-held
predict-requires-clause-held g c = λ r first last. let p = c.args.place.now in
    rw c.requires.whole (record {
      above = omega arith;
      below = omega (arith, last, c.requires.high, place_below p.down (p.rows - 1) 7 c.requires.place.down.some);
      left = omega arith;
      right = omega arith;
    })
