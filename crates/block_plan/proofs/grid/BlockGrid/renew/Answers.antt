use Rattle.std.proofs.Common.{◌≡◌, ◌*◌, ◌-◌, [], replicate, rules}
use Rattle.block_plan.proofs.Numbers.{empty_grid}
use Rattle.block_plan.proofs.grid.BlockGrid.renew.Goals as goal

pub invariant_of-self-2 : goal.invariant_of-self-2
invariant_of-self-2 c =
    let all : c.fill.new.self.items ≡ replicate (c.args.rows * (c.args.to - c.args.from)) 0 = search rules in
    let none : c.clear.new.self.items ≡ [] = search rules in
    rw (all, none) (empty_grid c.args.rows c.args.from (c.args.to - c.args.from))
