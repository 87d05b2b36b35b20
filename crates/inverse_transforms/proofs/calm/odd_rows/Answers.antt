use Rattle.std.proofs.Common.{rules, arith, subst}
use Rattle.inverse_transforms.specs.Flow.{rotated}
use Rattle.inverse_transforms.specs.LaneColumns.{TwoLanes}
use Rattle.inverse_transforms.proofs.StraightSixteen.{OddQuads, OddSums, OddRows, sizes_few, first_small, last_small, turned_narrow, odd_given, odd_small}
use Rattle.inverse_transforms.proofs.calm.odd_rows.Goals as goal

pub odd_lanes-requires-clause-few : goal.odd_lanes-requires-clause-few
odd_lanes-requires-clause-few c = λ j low. omega (arith, sizes_few c.args.t.now c.requires.size c.requires.few j low)

pub odd_lanes-requires-2-clause-few : goal.odd_lanes-requires-2-clause-few
odd_lanes-requires-2-clause-few c = λ j low. omega (arith, sizes_few c.args.t.now c.requires.size c.requires.few j low)

pub added_lanes-requires-clause-x : goal.added_lanes-requires-clause-x
added_lanes-requires-clause-x c =
    let v = c.odd_lanes in
    let w = c.odd_lanes-2 in
    let quads : OddQuads c.args.t.now v.result.0 v.result.1 v.result.2 v.result.3 w.result.0 w.result.1 w.result.2 w.result.3 =
    record { size = c.requires.size; few = c.requires.few; first = v.ensures.made; last = w.ensures.made } in
    (first_small c.args.t.now v.result.0 v.result.1 v.result.2 v.result.3 w.result.0 w.result.1 w.result.2 w.result.3 quads
    (search rules) (search rules) (search rules) (search rules)).0

pub added_lanes-requires-clause-y : goal.added_lanes-requires-clause-y
added_lanes-requires-clause-y c =
    let v = c.odd_lanes in
    let w = c.odd_lanes-2 in
    let quads : OddQuads c.args.t.now v.result.0 v.result.1 v.result.2 v.result.3 w.result.0 w.result.1 w.result.2 w.result.3 =
    record { size = c.requires.size; few = c.requires.few; first = v.ensures.made; last = w.ensures.made } in
    (last_small c.args.t.now v.result.0 v.result.1 v.result.2 v.result.3 w.result.0 w.result.1 w.result.2 w.result.3 quads
    (search rules) (search rules) (search rules) (search rules)).0

pub added_lanes-requires-2-clause-x : goal.added_lanes-requires-2-clause-x
added_lanes-requires-2-clause-x c =
    let v = c.odd_lanes in
    let w = c.odd_lanes-2 in
    let quads : OddQuads c.args.t.now v.result.0 v.result.1 v.result.2 v.result.3 w.result.0 w.result.1 w.result.2 w.result.3 =
    record { size = c.requires.size; few = c.requires.few; first = v.ensures.made; last = w.ensures.made } in
    (first_small c.args.t.now v.result.0 v.result.1 v.result.2 v.result.3 w.result.0 w.result.1 w.result.2 w.result.3 quads
    (search rules) (search rules) (search rules) (search rules)).1

pub added_lanes-requires-2-clause-y : goal.added_lanes-requires-2-clause-y
added_lanes-requires-2-clause-y c =
    let v = c.odd_lanes in
    let w = c.odd_lanes-2 in
    let quads : OddQuads c.args.t.now v.result.0 v.result.1 v.result.2 v.result.3 w.result.0 w.result.1 w.result.2 w.result.3 =
    record { size = c.requires.size; few = c.requires.few; first = v.ensures.made; last = w.ensures.made } in
    (last_small c.args.t.now v.result.0 v.result.1 v.result.2 v.result.3 w.result.0 w.result.1 w.result.2 w.result.3 quads
    (search rules) (search rules) (search rules) (search rules)).1

pub added_lanes-requires-3-clause-x : goal.added_lanes-requires-3-clause-x
added_lanes-requires-3-clause-x c =
    let v = c.odd_lanes in
    let w = c.odd_lanes-2 in
    let quads : OddQuads c.args.t.now v.result.0 v.result.1 v.result.2 v.result.3 w.result.0 w.result.1 w.result.2 w.result.3 =
    record { size = c.requires.size; few = c.requires.few; first = v.ensures.made; last = w.ensures.made } in
    (first_small c.args.t.now v.result.0 v.result.1 v.result.2 v.result.3 w.result.0 w.result.1 w.result.2 w.result.3 quads
    (search rules) (search rules) (search rules) (search rules)).2

pub added_lanes-requires-3-clause-y : goal.added_lanes-requires-3-clause-y
added_lanes-requires-3-clause-y c =
    let v = c.odd_lanes in
    let w = c.odd_lanes-2 in
    let quads : OddQuads c.args.t.now v.result.0 v.result.1 v.result.2 v.result.3 w.result.0 w.result.1 w.result.2 w.result.3 =
    record { size = c.requires.size; few = c.requires.few; first = v.ensures.made; last = w.ensures.made } in
    (last_small c.args.t.now v.result.0 v.result.1 v.result.2 v.result.3 w.result.0 w.result.1 w.result.2 w.result.3 quads
    (search rules) (search rules) (search rules) (search rules)).2

pub added_lanes-requires-4-clause-x : goal.added_lanes-requires-4-clause-x
added_lanes-requires-4-clause-x c =
    let v = c.odd_lanes in
    let w = c.odd_lanes-2 in
    let quads : OddQuads c.args.t.now v.result.0 v.result.1 v.result.2 v.result.3 w.result.0 w.result.1 w.result.2 w.result.3 =
    record { size = c.requires.size; few = c.requires.few; first = v.ensures.made; last = w.ensures.made } in
    (first_small c.args.t.now v.result.0 v.result.1 v.result.2 v.result.3 w.result.0 w.result.1 w.result.2 w.result.3 quads
    (search rules) (search rules) (search rules) (search rules)).3

pub added_lanes-requires-4-clause-y : goal.added_lanes-requires-4-clause-y
added_lanes-requires-4-clause-y c =
    let v = c.odd_lanes in
    let w = c.odd_lanes-2 in
    let quads : OddQuads c.args.t.now v.result.0 v.result.1 v.result.2 v.result.3 w.result.0 w.result.1 w.result.2 w.result.3 =
    record { size = c.requires.size; few = c.requires.few; first = v.ensures.made; last = w.ensures.made } in
    (last_small c.args.t.now v.result.0 v.result.1 v.result.2 v.result.3 w.result.0 w.result.1 w.result.2 w.result.3 quads
    (search rules) (search rules) (search rules) (search rules)).3

pub rotated_lanes-requires-clause-x : goal.rotated_lanes-requires-clause-x
rotated_lanes-requires-clause-x c =
    let v = c.odd_lanes in
    let w = c.odd_lanes-2 in
    let quads : OddQuads c.args.t.now v.result.0 v.result.1 v.result.2 v.result.3 w.result.0 w.result.1 w.result.2 w.result.3 =
    record { size = c.requires.size; few = c.requires.few; first = v.ensures.made; last = w.ensures.made } in
    let sums : OddSums c.args.t.now v.result.0 v.result.1 v.result.2 v.result.3 w.result.0 w.result.1 w.result.2 w.result.3
    c.added_lanes.result.0 c.added_lanes-2.result.0 c.added_lanes-3.result.0 c.added_lanes-4.result.0 c.added_lanes.result.1 c.added_lanes-2.result.1 c.added_lanes-3.result.1 c.added_lanes-4.result.1 =
    record { quads = quads; first = c.added_lanes.ensures.made; second = c.added_lanes-2.ensures.made; third = c.added_lanes-3.ensures.made; fourth = c.added_lanes-4.ensures.made } in
    (turned_narrow c.args.t.now v.result.0 v.result.1 v.result.2 v.result.3 w.result.0 w.result.1 w.result.2 w.result.3
    c.added_lanes.result.0 c.added_lanes-2.result.0 c.added_lanes-3.result.0 c.added_lanes-4.result.0 c.added_lanes.result.1 c.added_lanes-2.result.1 c.added_lanes-3.result.1 c.added_lanes-4.result.1 sums).0

pub rotated_lanes-requires-clause-y : goal.rotated_lanes-requires-clause-y
rotated_lanes-requires-clause-y c =
    let v = c.odd_lanes in
    let w = c.odd_lanes-2 in
    let quads : OddQuads c.args.t.now v.result.0 v.result.1 v.result.2 v.result.3 w.result.0 w.result.1 w.result.2 w.result.3 =
    record { size = c.requires.size; few = c.requires.few; first = v.ensures.made; last = w.ensures.made } in
    let sums : OddSums c.args.t.now v.result.0 v.result.1 v.result.2 v.result.3 w.result.0 w.result.1 w.result.2 w.result.3
    c.added_lanes.result.0 c.added_lanes-2.result.0 c.added_lanes-3.result.0 c.added_lanes-4.result.0 c.added_lanes.result.1 c.added_lanes-2.result.1 c.added_lanes-3.result.1 c.added_lanes-4.result.1 =
    record { quads = quads; first = c.added_lanes.ensures.made; second = c.added_lanes-2.ensures.made; third = c.added_lanes-3.ensures.made; fourth = c.added_lanes-4.ensures.made } in
    (turned_narrow c.args.t.now v.result.0 v.result.1 v.result.2 v.result.3 w.result.0 w.result.1 w.result.2 w.result.3
    c.added_lanes.result.0 c.added_lanes-2.result.0 c.added_lanes-3.result.0 c.added_lanes-4.result.0 c.added_lanes.result.1 c.added_lanes-2.result.1 c.added_lanes-3.result.1 c.added_lanes-4.result.1 sums).3

pub rotated_lanes-requires-2-clause-x : goal.rotated_lanes-requires-2-clause-x
rotated_lanes-requires-2-clause-x c =
    let v = c.odd_lanes in
    let w = c.odd_lanes-2 in
    let quads : OddQuads c.args.t.now v.result.0 v.result.1 v.result.2 v.result.3 w.result.0 w.result.1 w.result.2 w.result.3 =
    record { size = c.requires.size; few = c.requires.few; first = v.ensures.made; last = w.ensures.made } in
    let sums : OddSums c.args.t.now v.result.0 v.result.1 v.result.2 v.result.3 w.result.0 w.result.1 w.result.2 w.result.3
    c.added_lanes.result.0 c.added_lanes-2.result.0 c.added_lanes-3.result.0 c.added_lanes-4.result.0 c.added_lanes.result.1 c.added_lanes-2.result.1 c.added_lanes-3.result.1 c.added_lanes-4.result.1 =
    record { quads = quads; first = c.added_lanes.ensures.made; second = c.added_lanes-2.ensures.made; third = c.added_lanes-3.ensures.made; fourth = c.added_lanes-4.ensures.made } in
    (turned_narrow c.args.t.now v.result.0 v.result.1 v.result.2 v.result.3 w.result.0 w.result.1 w.result.2 w.result.3
    c.added_lanes.result.0 c.added_lanes-2.result.0 c.added_lanes-3.result.0 c.added_lanes-4.result.0 c.added_lanes.result.1 c.added_lanes-2.result.1 c.added_lanes-3.result.1 c.added_lanes-4.result.1 sums).1

pub rotated_lanes-requires-2-clause-y : goal.rotated_lanes-requires-2-clause-y
rotated_lanes-requires-2-clause-y c =
    let v = c.odd_lanes in
    let w = c.odd_lanes-2 in
    let quads : OddQuads c.args.t.now v.result.0 v.result.1 v.result.2 v.result.3 w.result.0 w.result.1 w.result.2 w.result.3 =
    record { size = c.requires.size; few = c.requires.few; first = v.ensures.made; last = w.ensures.made } in
    let sums : OddSums c.args.t.now v.result.0 v.result.1 v.result.2 v.result.3 w.result.0 w.result.1 w.result.2 w.result.3
    c.added_lanes.result.0 c.added_lanes-2.result.0 c.added_lanes-3.result.0 c.added_lanes-4.result.0 c.added_lanes.result.1 c.added_lanes-2.result.1 c.added_lanes-3.result.1 c.added_lanes-4.result.1 =
    record { quads = quads; first = c.added_lanes.ensures.made; second = c.added_lanes-2.ensures.made; third = c.added_lanes-3.ensures.made; fourth = c.added_lanes-4.ensures.made } in
    (turned_narrow c.args.t.now v.result.0 v.result.1 v.result.2 v.result.3 w.result.0 w.result.1 w.result.2 w.result.3
    c.added_lanes.result.0 c.added_lanes-2.result.0 c.added_lanes-3.result.0 c.added_lanes-4.result.0 c.added_lanes.result.1 c.added_lanes-2.result.1 c.added_lanes-3.result.1 c.added_lanes-4.result.1 sums).2

pub returns-clause-gives : goal.returns-clause-gives
returns-clause-gives c =
    let v = c.odd_lanes in
    let w = c.odd_lanes-2 in
    let quads : OddQuads c.args.t.now v.result.0 v.result.1 v.result.2 v.result.3 w.result.0 w.result.1 w.result.2 w.result.3 =
    record { size = c.requires.size; few = c.requires.few; first = v.ensures.made; last = w.ensures.made } in
    let sums : OddSums c.args.t.now v.result.0 v.result.1 v.result.2 v.result.3 w.result.0 w.result.1 w.result.2 w.result.3
    c.added_lanes.result.0 c.added_lanes-2.result.0 c.added_lanes-3.result.0 c.added_lanes-4.result.0 c.added_lanes.result.1 c.added_lanes-2.result.1 c.added_lanes-3.result.1 c.added_lanes-4.result.1 =
    record { quads = quads; first = c.added_lanes.ensures.made; second = c.added_lanes-2.ensures.made; third = c.added_lanes-3.ensures.made; fourth = c.added_lanes-4.ensures.made } in
    let outer = subst (λ k. TwoLanes (rotated k) c.added_lanes.result.1 c.added_lanes-4.result.1 c.rotated_lanes.result.0 c.rotated_lanes.result.1 8) c.by.ensures c.rotated_lanes.ensures.made in
    let inner = subst (λ k. TwoLanes (rotated k) c.added_lanes-2.result.1 c.added_lanes-3.result.1 c.rotated_lanes-2.result.0 c.rotated_lanes-2.result.1 8) c.by-2.ensures c.rotated_lanes-2.ensures.made in
    let rows : OddRows c.args.t.now v.result.0 v.result.1 v.result.2 v.result.3 w.result.0 w.result.1 w.result.2 w.result.3
    c.added_lanes.result.0 c.added_lanes-2.result.0 c.added_lanes-3.result.0 c.added_lanes-4.result.0 c.added_lanes.result.1 c.added_lanes-2.result.1 c.added_lanes-3.result.1 c.added_lanes-4.result.1
    c.rotated_lanes.result.0 c.rotated_lanes.result.1 c.rotated_lanes-2.result.0 c.rotated_lanes-2.result.1 =
    record { sums = sums; outer = outer; inner = inner } in
    odd_given c.args.t.now v.result.0 v.result.1 v.result.2 v.result.3 w.result.0 w.result.1 w.result.2 w.result.3
    c.added_lanes.result.0 c.added_lanes-2.result.0 c.added_lanes-3.result.0 c.added_lanes-4.result.0 c.added_lanes.result.1 c.added_lanes-2.result.1 c.added_lanes-3.result.1 c.added_lanes-4.result.1
    c.rotated_lanes.result.0 c.rotated_lanes.result.1 c.rotated_lanes-2.result.0 c.rotated_lanes-2.result.1 rows

pub returns-clause-small : goal.returns-clause-small
returns-clause-small c =
    let v = c.odd_lanes in
    let w = c.odd_lanes-2 in
    let quads : OddQuads c.args.t.now v.result.0 v.result.1 v.result.2 v.result.3 w.result.0 w.result.1 w.result.2 w.result.3 =
    record { size = c.requires.size; few = c.requires.few; first = v.ensures.made; last = w.ensures.made } in
    let sums : OddSums c.args.t.now v.result.0 v.result.1 v.result.2 v.result.3 w.result.0 w.result.1 w.result.2 w.result.3
    c.added_lanes.result.0 c.added_lanes-2.result.0 c.added_lanes-3.result.0 c.added_lanes-4.result.0 c.added_lanes.result.1 c.added_lanes-2.result.1 c.added_lanes-3.result.1 c.added_lanes-4.result.1 =
    record { quads = quads; first = c.added_lanes.ensures.made; second = c.added_lanes-2.ensures.made; third = c.added_lanes-3.ensures.made; fourth = c.added_lanes-4.ensures.made } in
    let outer = subst (λ k. TwoLanes (rotated k) c.added_lanes.result.1 c.added_lanes-4.result.1 c.rotated_lanes.result.0 c.rotated_lanes.result.1 8) c.by.ensures c.rotated_lanes.ensures.made in
    let inner = subst (λ k. TwoLanes (rotated k) c.added_lanes-2.result.1 c.added_lanes-3.result.1 c.rotated_lanes-2.result.0 c.rotated_lanes-2.result.1 8) c.by-2.ensures c.rotated_lanes-2.ensures.made in
    let rows : OddRows c.args.t.now v.result.0 v.result.1 v.result.2 v.result.3 w.result.0 w.result.1 w.result.2 w.result.3
    c.added_lanes.result.0 c.added_lanes-2.result.0 c.added_lanes-3.result.0 c.added_lanes-4.result.0 c.added_lanes.result.1 c.added_lanes-2.result.1 c.added_lanes-3.result.1 c.added_lanes-4.result.1
    c.rotated_lanes.result.0 c.rotated_lanes.result.1 c.rotated_lanes-2.result.0 c.rotated_lanes-2.result.1 =
    record { sums = sums; outer = outer; inner = inner } in
    odd_small c.args.t.now v.result.0 v.result.1 v.result.2 v.result.3 w.result.0 w.result.1 w.result.2 w.result.3
    c.added_lanes.result.0 c.added_lanes-2.result.0 c.added_lanes-3.result.0 c.added_lanes-4.result.0 c.added_lanes.result.1 c.added_lanes-2.result.1 c.added_lanes-3.result.1 c.added_lanes-4.result.1
    c.rotated_lanes.result.0 c.rotated_lanes.result.1 c.rotated_lanes-2.result.0 c.rotated_lanes-2.result.1 rows
    (search rules) (search rules) (search rules) (search rules) (search rules) (search rules) (search rules) (search rules)
