use Rattle.std.proofs.Common.{◌-◌, ◌<◌, length, rules}
use Rattle.column_plan.proofs.Pieces.{put_goes_on}
use Rattle.column_plan.proofs.residues.put.Goals as goal

pub returns-clause-go_on : goal.returns-clause-go_on
returns-clause-go_on c =
    let old = c.make_room.new.chunks.items in
    let last = c.len-last.result - 1 in
    let low : last < length old = search rules in
    let put = c.put.ensures in
    put_goes_on c.put.result c.args.chunks.now.items old last c.index_mut.result.now c.put.new.self c.args.values.now c.make_room.ensures.go_on low c.index_mut.ensures.value put.values put.kept
