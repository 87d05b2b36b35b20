use Rattle.std.proofs.Common.{refl, arith, ◌%◌}
use Rattle.coef_tokens.proofs.Turns.{clear_at}
use Rattle.std.proofs.Common.{◌≤◌}
use Rattle.bench.proofs.tokens.read_round.Goals as goal

pub read-medium-requires : goal.read-medium-requires
read-medium-requires g c =
    let low : c.args.round % 3 ≤ 2 = omega arith in
    (omega arith, (low, (rw (c.new-tables-2.ensures.tx, c.kind_in_turn-2.ensures) refl, (omega arith, clear_at 64))))

pub read-large-requires : goal.read-large-requires
read-large-requires g c =
    let low : c.args.round % 3 ≤ 2 = omega arith in
    (omega arith, (low, (rw (c.new-tables-3.ensures.tx, c.kind_in_turn-3.ensures) refl, (omega arith, clear_at 256))))

pub read-huge-requires : goal.read-huge-requires
read-huge-requires g c =
    let low : c.args.round % 3 ≤ 2 = omega arith in
    (omega arith, (low, (rw (c.new-tables-4.ensures.tx, c.kind_in_turn-4.ensures) refl, (omega arith, clear_at 1024))))
