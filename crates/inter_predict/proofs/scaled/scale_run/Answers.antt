use Rattle.std.proofs.Common.{◌+◌, ◌/◌, ◌%◌, ◌∙◌, ℕ, ap, arith, get_or, map}
use Rattle.vp9_tables.specs.Filters.{taps_of}
use Rattle.tap_filter.specs.Filter.{filtered}
use Rattle.inter_places.specs.Axes.{offset, phase}
use Rattle.inter_predict.proofs.Values.{first_more}
use Rattle.inter_predict.proofs.scaled.scale_run.Goals as goal

pub loop-j-preserved : goal.loop-j-preserved
loop-j-preserved g c = let a = c.args in let f = a.filter.now in let v = g.P.Sample.value in let before = c.loop-j.invariant in
    record {
      value = first_more (λ j. filtered f.most (taps_of f.kind (phase f.axis j)) (λ k. get_or (map g.Q.Sample.value a.samples.now) (a.from + offset f.axis j / 16 + k) 0))
          (λ j. get_or (map v c.loop-j.out) j 0) (λ j. get_or (map v c.put_at.new.samples) j 0) c.loop-j.j before.value
          (c.put_at.ensures.put ∙ c.filtered_run-value.ensures ∙ ap (λ (o : ℕ). filtered f.most (taps_of f.kind (o % 16)) (λ k. get_or (map g.Q.Sample.value a.samples.now) (a.from + o / 16 + k) 0)) c.offset_of-offset.ensures.value)
          c.put_at.ensures.before;
      after = λ j past. c.put_at.ensures.after j (omega (arith, past)) ∙ before.after j (omega (arith, past));
    }
