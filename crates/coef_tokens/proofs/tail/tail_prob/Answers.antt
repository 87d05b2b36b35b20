use Rattle.std.proofs.Common.{arith, ◌≤◌}
use Rattle.coef_tokens.proofs.TailTable.{tail_at}
use Rattle.coef_tokens.proofs.tail.tail_prob.Goals as goal

pub returns : goal.returns
returns c =
    let most : c.args.q ≤ 255 = omega arith in
    tail_at c.args.q c.args.node c.requires.least most c.requires.node
