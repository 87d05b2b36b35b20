use Rattle.std.proofs.Common.{◌≤◌, ◌∙◌, sym, arith, length, pos}
use Rattle.header_checks.specs.Params.{is_delta}
use Rattle.header_checks.proofs.Numbers.{delta_signed}
use Rattle.header_checks.proofs.Pairs.{pair_at, pairs_end}
use Rattle.header_checks.proofs.filter.are_coded.Goals as goal

pub returns-clause-deltas : goal.returns-clause-deltas
returns-clause-deltas c = λ all i low differs.
    let olds = c.args.olds.now in
    let deltas = c.args.deltas.now in
    let end : length olds ≤ c.loop-i.i = omega (arith, c.loop-i-test.false, c.requires) in
    let pass = sym c.loop-i.invariant ∙ pairs_end is_delta olds deltas c.loop-i.i end c.loop-i-test.false in
    delta_signed _ _ (pair_at is_delta olds deltas i (pos 0) pass low) differs
