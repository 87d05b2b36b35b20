use Rattle.std.proofs.Common.{◌∙◌, ap, subst, arith}
use Rattle.std.proofs.lemmas.List.{map_push}
use Rattle.frame_close.specs.Code.{lent, lent_result}
use Rattle.frame_steps.specs.StepResults.{IsColumn}
use Rattle.frame_steps.proofs.Joining.{all_copied, one_failed, one_planned}
use Rattle.frame_steps.proofs.closing.copy_all.Goals.{in-Ok+in_ok-copied_column-in-Ok, in-Err}
use Rattle.frame_steps.proofs.closing.copy_all.Goals as goal

pub loop-k-preserved : goal.loop-k-preserved
loop-k-preserved g c =
    let at = c.loop-k in
    let b = c.args.frame.now in
    let told = subst (λ f. IsColumn f at.k c.column.result.now) c.requires.frame c.column.ensures in
    elim c.match-column.branch [
      | in-Ok+in_ok-copied_column-in-Ok w ↦
          let planned = subst (IsColumn b at.k) w.in-Ok.is told in
          let listed = ap lent w.push_reserved.ensures.items ∙ map_push lent_result at.counts.items _ in
          rw (w.counts-is, w.columns-is) (record {
            room = omega (arith, at.invariant.room, w.push_reserved.ensures.capacity);
            spare = omega (arith, at.invariant.spare, w.push_reserved-in-Ok.ensures.capacity);
            first = one_planned b at.k (lent at.counts.items) (lent w.push_reserved.new.self.items) at.columns.items w.push_reserved-in-Ok.new.self.items w.in-Ok.it w.in_ok-copied_column-in-Ok.field-0
                at.invariant.first planned w.in_ok-copied_column-in-Ok.ensures.is w.in_ok-copied_column-in-Ok.ensures.blocks listed w.push_reserved-in-Ok.ensures.items;
          })
      | in-Err w ↦
          let failed = subst (IsColumn b at.k) w.in-Err.is told in
          let listed = ap lent w.push_reserved-in-Err.ensures.items ∙ map_push lent_result at.counts.items _ in
          rw (w.counts-is, w.columns-is) (record {
            room = omega (arith, at.invariant.room, w.push_reserved-in-Err.ensures.capacity);
            spare = at.invariant.spare;
            first = one_failed b at.k (lent at.counts.items) (lent w.push_reserved-in-Err.new.self.items) at.columns.items w.in-Err.why at.invariant.first failed listed;
          })
    ]

pub returns : goal.returns
returns g c = all_copied c.args.frame.now c.loop-k.k (lent c.loop-k.counts.items) c.loop-k.columns.items (omega (arith, c.loop-k-test.false, c.loop-k.auto, c.columns-count.ensures)) c.loop-k.invariant.first
