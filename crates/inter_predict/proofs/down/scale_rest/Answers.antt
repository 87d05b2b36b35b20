use Rattle.std.proofs.Common.{◌+◌, ◌*◌, ◌/◌, ◌%◌, ◌∙◌, ℕ, ap, arith, get_or, map}
use Rattle.vp9_tables.specs.Filters.{taps_of}
use Rattle.tap_filter.specs.Filter.{filtered}
use Rattle.inter_places.specs.Axes.{offset, phase}
use Rattle.inter_predict.proofs.Values.{one_more}
use Rattle.inter_predict.proofs.down.scale_rest.Goals as goal

pub loop-j-preserved : goal.loop-j-preserved
loop-j-preserved g c = let a = c.args in let f = a.down.now in let v = g.P.Sample.value in let before = c.loop-j.invariant in
    record {
      row = one_more (λ j. filtered f.most (taps_of f.kind (phase f.axis a.i)) (λ k. get_or (map v a.lines.now) ((offset f.axis a.i / 16 + k) * a.n + j) 0))
          (λ j. get_or (map v c.loop-j.out) (a.i * a.n + j) 0) (λ j. get_or (map v c.put_at.new.samples) (a.i * a.n + j) 0) (16 * (a.n / 16)) c.loop-j.j before.row
          (c.put_at.ensures.put ∙ c.value_below-value.ensures ∙ ap (λ (o : ℕ). filtered f.most (taps_of f.kind (o % 16)) (λ k. get_or (map v a.lines.now) ((o / 16 + k) * a.n + c.loop-j.j) 0)) c.offset_of-offset.ensures.value)
          (λ j low. c.put_at.ensures.before (a.i * a.n + j) (omega (arith, low)));
      before = λ k low. c.put_at.ensures.before k (omega arith) ∙ before.before k low;
    }
