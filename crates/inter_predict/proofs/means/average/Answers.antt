use Rattle.std.proofs.Common.{◌≡◌, ◌∙◌, ℕ, ap, arith, refl, get_or, map}
use Rattle.inter_predict.specs.InterSamples.{average}
use Rattle.inter_predict.proofs.Values.{first_more}
use Rattle.inter_predict.proofs.means.average.Goals as goal

pub loop-k-preserved : goal.loop-k-preserved
loop-k-preserved g c = let a = c.args in let v = g.P.Sample.value in let k = c.loop-k.k in let before = c.loop-k.invariant in
    let here : get_or (map v c.put_at.new.samples) k 0 ≡ average (get_or (map v c.loop-k.block) k 0) (get_or (map v a.other.now) k 0) =
    c.put_at.ensures.put ∙ c.mean-mean.ensures ∙ rw (c.sample_at.ensures, c.sample_at-in-loop-k.ensures) refl in
    record {
      value = first_more (λ j. average (get_or (map v a.block.now) j 0) (get_or (map v a.other.now) j 0)) (λ j. get_or (map v c.loop-k.block) j 0) (λ j. get_or (map v c.put_at.new.samples) j 0) k
          before.value (here ∙ ap (λ (n : ℕ). average n (get_or (map v a.other.now) k 0)) (before.after k (omega arith))) c.put_at.ensures.before;
      after = λ j past. c.put_at.ensures.after j (omega (arith, past)) ∙ before.after j (omega (arith, past));
    }
