use Rattle.std.proofs.Common.{◌∙◌, take, arith}
use Rattle.std.proofs.lemmas.List.{length-set, take_more_set}
use Rattle.frame_state.proofs.ColumnSteps.{one_begun}
use Rattle.frame_state.proofs.columns.TileColumn.renew_all.Goals as goal

pub loop-k-preserved : goal.loop-k-preserved
loop-k-preserved c =
    let columns = c.loop-k.columns in
    let k = c.loop-k.k in
    let low = c.loop-k-test.true in record {
      begun = one_begun c.args.setting.now.header k (take k columns) _ c.renew.new.self (take_more_set columns k c.renew.new.self (omega arith))
          c.loop-k.invariant.begun c.in_ok-renew.ensures.is c.in_ok-renew.ensures.start;
      many = length-set columns k c.renew.new.self ∙ c.loop-k.invariant.many;
    }
