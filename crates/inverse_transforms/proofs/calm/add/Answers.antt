use Rattle.std.proofs.Common.{rules, refl, true, ◌^◌, arith}
use Rattle.inverse_transforms.specs.Flow.{sum_and_difference}
use Rattle.inverse_transforms.proofs.ColumnLemmas.{two_ok, two_hold, two_small_after}
use Rattle.inverse_transforms.proofs.calm.add.Goals as goal

pub returns-clause-gives : goal.returns-clause-gives
returns-clause-gives c =
    let made = c.added_lanes in
    two_ok (2 ^ 15) sum_and_difference sum_and_difference c.args.t.now c.args.a c.args.b made.result.0 made.result.1 true refl c.requires.a c.requires.b made.ensures.made
    refl (two_hold (2 ^ 15) sum_and_difference sum_and_difference c.args.t.now c.args.a c.args.b refl c.requires.a c.requires.b c.requires.fit)

pub returns-clause-small : goal.returns-clause-small
returns-clause-small c =
    let made = c.added_lanes in
    two_small_after (2 ^ 15) sum_and_difference c.args.t.now c.args.a c.args.b made.result.0 made.result.1 true
    (omega arith) (search rules) (search rules) made.ensures.made refl
    (two_hold (2 ^ 15) sum_and_difference sum_and_difference c.args.t.now c.args.a c.args.b refl c.requires.a c.requires.b c.requires.fit) c.requires.small
