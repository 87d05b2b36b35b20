use Rattle.std.proofs.Common.{◌≡◌, ◌*◌, ◌-◌, [], replicate, rules}
use Rattle.block_plan.proofs.Numbers.{empty_grid}
use Rattle.block_plan.proofs.grid.BlockGrid.new.Goals as goal

pub invariant_of-result : goal.invariant_of-result
invariant_of-result c =
    let all : c.in_ok-places.places.items ≡ replicate (c.args.rows * (c.args.to - c.args.from)) 0 = search rules in
    let none : c.in_ok-blocks.blocks.items ≡ [] = search rules in
    rw (all, none) (empty_grid c.args.rows c.args.from (c.args.to - c.args.from))
