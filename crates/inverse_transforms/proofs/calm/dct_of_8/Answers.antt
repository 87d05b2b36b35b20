use Rattle.std.proofs.Common.{rules, arith, ◌^◌}
use Rattle.inverse_transforms.specs.LaneColumns.{column}
use Rattle.inverse_transforms.proofs.CalmColumns.{magnitude_bounds}
use Rattle.inverse_transforms.proofs.Narrows.{narrow_at}
use Rattle.inverse_transforms.proofs.StraightEight.{OctMade, OctAdded, even_rows_small, odd_rows_small, odds_few, oct_given, oct_small}
use Rattle.inverse_transforms.proofs.calm.dct_of_8.Goals as goal

pub dct_lanes-requires-clause-a : goal.dct_lanes-requires-clause-a
dct_lanes-requires-clause-a c = narrow_at c.args.t.now 0 (omega (arith, c.requires.size)) (λ j low. magnitude_bounds (2 ^ 15) (column j c.args.t.now) (c.requires.few j low))

pub dct_lanes-requires-clause-b : goal.dct_lanes-requires-clause-b
dct_lanes-requires-clause-b c = narrow_at c.args.t.now 2 (omega (arith, c.requires.size)) (λ j low. magnitude_bounds (2 ^ 15) (column j c.args.t.now) (c.requires.few j low))

pub dct_lanes-requires-clause-c : goal.dct_lanes-requires-clause-c
dct_lanes-requires-clause-c c = narrow_at c.args.t.now 4 (omega (arith, c.requires.size)) (λ j low. magnitude_bounds (2 ^ 15) (column j c.args.t.now) (c.requires.few j low))

pub dct_lanes-requires-clause-d : goal.dct_lanes-requires-clause-d
dct_lanes-requires-clause-d c = narrow_at c.args.t.now 6 (omega (arith, c.requires.size)) (λ j low. magnitude_bounds (2 ^ 15) (column j c.args.t.now) (c.requires.few j low))

pub odd_lanes-requires-clause-few : goal.odd_lanes-requires-clause-few
odd_lanes-requires-clause-few c = odds_few c.args.t.now c.requires.size c.requires.few

pub added_lanes-requires-clause-x : goal.added_lanes-requires-clause-x
added_lanes-requires-clause-x c =
    let v = c.dct_lanes in
    let w = c.odd_lanes in
    let made : OctMade c.args.t.now v.result.0 v.result.1 v.result.2 v.result.3 w.result.0 w.result.1 w.result.2 w.result.3 =
    record { size = c.requires.size; few = c.requires.few; even = v.ensures.made; odd = w.ensures.made } in
    (even_rows_small c.args.t.now v.result.0 v.result.1 v.result.2 v.result.3 w.result.0 w.result.1 w.result.2 w.result.3 made
    (search rules) (search rules) (search rules) (search rules)).0

pub added_lanes-requires-clause-y : goal.added_lanes-requires-clause-y
added_lanes-requires-clause-y c =
    let v = c.dct_lanes in
    let w = c.odd_lanes in
    let made : OctMade c.args.t.now v.result.0 v.result.1 v.result.2 v.result.3 w.result.0 w.result.1 w.result.2 w.result.3 =
    record { size = c.requires.size; few = c.requires.few; even = v.ensures.made; odd = w.ensures.made } in
    (odd_rows_small c.args.t.now v.result.0 v.result.1 v.result.2 v.result.3 w.result.0 w.result.1 w.result.2 w.result.3 made
    (search rules) (search rules) (search rules) (search rules)).0

pub added_lanes-requires-2-clause-x : goal.added_lanes-requires-2-clause-x
added_lanes-requires-2-clause-x c =
    let v = c.dct_lanes in
    let w = c.odd_lanes in
    let made : OctMade c.args.t.now v.result.0 v.result.1 v.result.2 v.result.3 w.result.0 w.result.1 w.result.2 w.result.3 =
    record { size = c.requires.size; few = c.requires.few; even = v.ensures.made; odd = w.ensures.made } in
    (even_rows_small c.args.t.now v.result.0 v.result.1 v.result.2 v.result.3 w.result.0 w.result.1 w.result.2 w.result.3 made
    (search rules) (search rules) (search rules) (search rules)).1

pub added_lanes-requires-2-clause-y : goal.added_lanes-requires-2-clause-y
added_lanes-requires-2-clause-y c =
    let v = c.dct_lanes in
    let w = c.odd_lanes in
    let made : OctMade c.args.t.now v.result.0 v.result.1 v.result.2 v.result.3 w.result.0 w.result.1 w.result.2 w.result.3 =
    record { size = c.requires.size; few = c.requires.few; even = v.ensures.made; odd = w.ensures.made } in
    (odd_rows_small c.args.t.now v.result.0 v.result.1 v.result.2 v.result.3 w.result.0 w.result.1 w.result.2 w.result.3 made
    (search rules) (search rules) (search rules) (search rules)).1

pub added_lanes-requires-3-clause-x : goal.added_lanes-requires-3-clause-x
added_lanes-requires-3-clause-x c =
    let v = c.dct_lanes in
    let w = c.odd_lanes in
    let made : OctMade c.args.t.now v.result.0 v.result.1 v.result.2 v.result.3 w.result.0 w.result.1 w.result.2 w.result.3 =
    record { size = c.requires.size; few = c.requires.few; even = v.ensures.made; odd = w.ensures.made } in
    (even_rows_small c.args.t.now v.result.0 v.result.1 v.result.2 v.result.3 w.result.0 w.result.1 w.result.2 w.result.3 made
    (search rules) (search rules) (search rules) (search rules)).2

pub added_lanes-requires-3-clause-y : goal.added_lanes-requires-3-clause-y
added_lanes-requires-3-clause-y c =
    let v = c.dct_lanes in
    let w = c.odd_lanes in
    let made : OctMade c.args.t.now v.result.0 v.result.1 v.result.2 v.result.3 w.result.0 w.result.1 w.result.2 w.result.3 =
    record { size = c.requires.size; few = c.requires.few; even = v.ensures.made; odd = w.ensures.made } in
    (odd_rows_small c.args.t.now v.result.0 v.result.1 v.result.2 v.result.3 w.result.0 w.result.1 w.result.2 w.result.3 made
    (search rules) (search rules) (search rules) (search rules)).2

pub added_lanes-requires-4-clause-x : goal.added_lanes-requires-4-clause-x
added_lanes-requires-4-clause-x c =
    let v = c.dct_lanes in
    let w = c.odd_lanes in
    let made : OctMade c.args.t.now v.result.0 v.result.1 v.result.2 v.result.3 w.result.0 w.result.1 w.result.2 w.result.3 =
    record { size = c.requires.size; few = c.requires.few; even = v.ensures.made; odd = w.ensures.made } in
    (even_rows_small c.args.t.now v.result.0 v.result.1 v.result.2 v.result.3 w.result.0 w.result.1 w.result.2 w.result.3 made
    (search rules) (search rules) (search rules) (search rules)).3

pub added_lanes-requires-4-clause-y : goal.added_lanes-requires-4-clause-y
added_lanes-requires-4-clause-y c =
    let v = c.dct_lanes in
    let w = c.odd_lanes in
    let made : OctMade c.args.t.now v.result.0 v.result.1 v.result.2 v.result.3 w.result.0 w.result.1 w.result.2 w.result.3 =
    record { size = c.requires.size; few = c.requires.few; even = v.ensures.made; odd = w.ensures.made } in
    (odd_rows_small c.args.t.now v.result.0 v.result.1 v.result.2 v.result.3 w.result.0 w.result.1 w.result.2 w.result.3 made
    (search rules) (search rules) (search rules) (search rules)).3

pub returns-clause-gives : goal.returns-clause-gives
returns-clause-gives c =
    let v = c.dct_lanes in
    let w = c.odd_lanes in
    let made : OctMade c.args.t.now v.result.0 v.result.1 v.result.2 v.result.3 w.result.0 w.result.1 w.result.2 w.result.3 =
    record { size = c.requires.size; few = c.requires.few; even = v.ensures.made; odd = w.ensures.made } in
    let added : OctAdded c.args.t.now v.result.0 v.result.1 v.result.2 v.result.3 w.result.0 w.result.1 w.result.2 w.result.3
    c.added_lanes.result.0 c.added_lanes-2.result.0 c.added_lanes-3.result.0 c.added_lanes-4.result.0 c.added_lanes-4.result.1 c.added_lanes-3.result.1 c.added_lanes-2.result.1 c.added_lanes.result.1 =
    record { made = made; first = c.added_lanes.ensures.made; second = c.added_lanes-2.ensures.made; third = c.added_lanes-3.ensures.made; fourth = c.added_lanes-4.ensures.made } in
    oct_given c.args.t.now v.result.0 v.result.1 v.result.2 v.result.3 w.result.0 w.result.1 w.result.2 w.result.3
    c.added_lanes.result.0 c.added_lanes-2.result.0 c.added_lanes-3.result.0 c.added_lanes-4.result.0 c.added_lanes-4.result.1 c.added_lanes-3.result.1 c.added_lanes-2.result.1 c.added_lanes.result.1 added

pub returns-clause-small : goal.returns-clause-small
returns-clause-small c =
    let v = c.dct_lanes in
    let w = c.odd_lanes in
    let made : OctMade c.args.t.now v.result.0 v.result.1 v.result.2 v.result.3 w.result.0 w.result.1 w.result.2 w.result.3 =
    record { size = c.requires.size; few = c.requires.few; even = v.ensures.made; odd = w.ensures.made } in
    let added : OctAdded c.args.t.now v.result.0 v.result.1 v.result.2 v.result.3 w.result.0 w.result.1 w.result.2 w.result.3
    c.added_lanes.result.0 c.added_lanes-2.result.0 c.added_lanes-3.result.0 c.added_lanes-4.result.0 c.added_lanes-4.result.1 c.added_lanes-3.result.1 c.added_lanes-2.result.1 c.added_lanes.result.1 =
    record { made = made; first = c.added_lanes.ensures.made; second = c.added_lanes-2.ensures.made; third = c.added_lanes-3.ensures.made; fourth = c.added_lanes-4.ensures.made } in
    oct_small c.args.t.now v.result.0 v.result.1 v.result.2 v.result.3 w.result.0 w.result.1 w.result.2 w.result.3
    c.added_lanes.result.0 c.added_lanes-2.result.0 c.added_lanes-3.result.0 c.added_lanes-4.result.0 c.added_lanes-4.result.1 c.added_lanes-3.result.1 c.added_lanes-2.result.1 c.added_lanes.result.1 added
    (search rules) (search rules) (search rules) (search rules) (search rules) (search rules) (search rules) (search rules) c.requires.small
