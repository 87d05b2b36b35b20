use Rattle.std.proofs.Common.{rules, arith, ◌^◌}
use Rattle.inverse_transforms.specs.LaneColumns.{column}
use Rattle.inverse_transforms.proofs.CalmColumns.{magnitude_bounds}
use Rattle.inverse_transforms.proofs.Narrows.{narrow_at}
use Rattle.inverse_transforms.proofs.Straight.{QuadMade, quads_given, quads_small}
use Rattle.inverse_transforms.proofs.calm.dct_of_4.Goals as goal

pub dct_lanes-requires-clause-a : goal.dct_lanes-requires-clause-a
dct_lanes-requires-clause-a c = narrow_at c.args.t.now 0 (omega arith) (λ j low. magnitude_bounds (2 ^ 15) (column j c.args.t.now) (c.requires.few j low))

pub dct_lanes-requires-clause-b : goal.dct_lanes-requires-clause-b
dct_lanes-requires-clause-b c = narrow_at c.args.t.now 1 (omega arith) (λ j low. magnitude_bounds (2 ^ 15) (column j c.args.t.now) (c.requires.few j low))

pub dct_lanes-requires-clause-c : goal.dct_lanes-requires-clause-c
dct_lanes-requires-clause-c c = narrow_at c.args.t.now 2 (omega arith) (λ j low. magnitude_bounds (2 ^ 15) (column j c.args.t.now) (c.requires.few j low))

pub dct_lanes-requires-clause-d : goal.dct_lanes-requires-clause-d
dct_lanes-requires-clause-d c = narrow_at c.args.t.now 3 (omega arith) (λ j low. magnitude_bounds (2 ^ 15) (column j c.args.t.now) (c.requires.few j low))

pub returns-clause-gives : goal.returns-clause-gives
returns-clause-gives c =
    let w = c.dct_lanes in
    let made : QuadMade c.args.t.now w.result.0 w.result.1 w.result.2 w.result.3 =
    record { size = c.requires.size; few = c.requires.few; made = w.ensures.made } in
    quads_given c.args.t.now w.result.0 w.result.1 w.result.2 w.result.3 made

pub returns-clause-small : goal.returns-clause-small
returns-clause-small c =
    let w = c.dct_lanes in
    let made : QuadMade c.args.t.now w.result.0 w.result.1 w.result.2 w.result.3 =
    record { size = c.requires.size; few = c.requires.few; made = w.ensures.made } in
    quads_small c.args.t.now w.result.0 w.result.1 w.result.2 w.result.3 made (search rules) (search rules) (search rules) (search rules) c.requires.small
