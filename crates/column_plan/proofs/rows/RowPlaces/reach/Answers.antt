use Rattle.std.proofs.Common.{◌≡◌, ◌∙◌, ◌+◌, ◌∷◌, [], ap, length, arith}
use Rattle.std.proofs.lemmas.List.{length-append}
use Rattle.column_plan.proofs.RowStarts.{noted_more}
use Rattle.column_plan.proofs.rows.RowPlaces.reach.Goals as goal

pub loop-next-preserved : goal.loop-next-preserved
loop-next-preserved c =
    let old = c.args.self.now.places.items in
    let now = c.loop-next.self.places.items in
    let is = c.in_ok-push.ensures.items in
    let long : length c.push.new.self.items ≡ length now + 1 = ap length is ∙ length-append now (c.args.next ∷ []) in record {
      more = noted_more old now c.push.new.self.items c.args.next is c.loop-next.invariant.more c.loop-next.invariant.low;
      low = omega (arith, long, c.loop-next.invariant.low);
      most = omega (arith, long, c.loop-next.invariant.low, c.loop-next-test.true);
    }
