use Rattle.std.proofs.Common.{rules, ◌+◌, ◌*◌, ◌∙◌, ◌≡◌, arith, get_or, map}
use Rattle.inter_predict.proofs.Values.{number_more, numbers_small}
use Rattle.inter_predict.proofs.scaled.eight_of.Goals as goal

pub loop-k-preserved : goal.loop-k-preserved
loop-k-preserved g c = let a = c.args in let v = g.P.Sample.value in let before = c.loop-k.invariant in let k = c.loop-k.k in
    let is : c.widen.result ≡ get_or (map v a.samples.now) (a.first + k * a.step) 0 = c.widen.ensures ∙ c.sample_at.ensures in
    record {
      long = search rules;
      value = number_more (λ j. get_or (map v a.samples.now) (a.first + j * a.step) 0) c.loop-k.eight k c.widen.result (omega (arith, before.long, c.loop-k-test.true)) before.value is;
      samples = numbers_small 4095 c.loop-k.eight k c.widen.result (omega (arith, before.long, c.loop-k-test.true)) before.samples (rw is (c.requires.samples (a.first + k * a.step)));
    }
