use Rattle.std.proofs.Common.{◌≡◌, ◌*◌, replicate, rules}
use Rattle.block_plan.proofs.MapRows.{zero_rows}
use Rattle.block_plan.proofs.segment_map.SegmentMap.new.Goals as goal

pub returns-clause-zero : goal.returns-clause-zero
returns-clause-zero c =
    let all : c.in_ok-ids.ids.items ≡ replicate (c.args.rows * c.args.cols) 0 = search rules in
    rw all (zero_rows c.args.cols (c.args.rows * c.args.cols))
