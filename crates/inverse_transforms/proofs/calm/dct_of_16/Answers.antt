use Rattle.std.proofs.Common.{rules, []}
use Rattle.inverse_transforms.proofs.StraightSixteen.{Sixteen, even_few, even_small, sixteen_given, sixteen_small}
use Rattle.inverse_transforms.proofs.calm.dct_of_16.Goals as goal

pub dct_of_8-requires-clause-few : goal.dct_of_8-requires-clause-few
dct_of_8-requires-clause-few c = even_few c.args.t.now c.requires.size c.requires.few

pub dct_of_8-requires-clause-small : goal.dct_of_8-requires-clause-small
dct_of_8-requires-clause-small c = even_small c.args.t.now c.requires.size c.requires.small

pub added_lanes-requires-clause-x : goal.added_lanes-requires-clause-x
added_lanes-requires-clause-x c = c.dct_of_8.ensures.small 0 [] (search rules)

pub added_lanes-requires-clause-y : goal.added_lanes-requires-clause-y
added_lanes-requires-clause-y c = c.odd_rows-odd.ensures.small 0 [] (search rules)

pub added_lanes-requires-2-clause-x : goal.added_lanes-requires-2-clause-x
added_lanes-requires-2-clause-x c = c.dct_of_8.ensures.small 1 [] (search rules)

pub added_lanes-requires-2-clause-y : goal.added_lanes-requires-2-clause-y
added_lanes-requires-2-clause-y c = c.odd_rows-odd.ensures.small 1 [] (search rules)

pub added_lanes-requires-3-clause-x : goal.added_lanes-requires-3-clause-x
added_lanes-requires-3-clause-x c = c.dct_of_8.ensures.small 2 [] (search rules)

pub added_lanes-requires-3-clause-y : goal.added_lanes-requires-3-clause-y
added_lanes-requires-3-clause-y c = c.odd_rows-odd.ensures.small 2 [] (search rules)

pub added_lanes-requires-4-clause-x : goal.added_lanes-requires-4-clause-x
added_lanes-requires-4-clause-x c = c.dct_of_8.ensures.small 3 [] (search rules)

pub added_lanes-requires-4-clause-y : goal.added_lanes-requires-4-clause-y
added_lanes-requires-4-clause-y c = c.odd_rows-odd.ensures.small 3 [] (search rules)

pub added_lanes-requires-5-clause-x : goal.added_lanes-requires-5-clause-x
added_lanes-requires-5-clause-x c = c.dct_of_8.ensures.small 4 [] (search rules)

pub added_lanes-requires-5-clause-y : goal.added_lanes-requires-5-clause-y
added_lanes-requires-5-clause-y c = c.odd_rows-odd.ensures.small 4 [] (search rules)

pub added_lanes-requires-6-clause-x : goal.added_lanes-requires-6-clause-x
added_lanes-requires-6-clause-x c = c.dct_of_8.ensures.small 5 [] (search rules)

pub added_lanes-requires-6-clause-y : goal.added_lanes-requires-6-clause-y
added_lanes-requires-6-clause-y c = c.odd_rows-odd.ensures.small 5 [] (search rules)

pub added_lanes-requires-7-clause-x : goal.added_lanes-requires-7-clause-x
added_lanes-requires-7-clause-x c = c.dct_of_8.ensures.small 6 [] (search rules)

pub added_lanes-requires-7-clause-y : goal.added_lanes-requires-7-clause-y
added_lanes-requires-7-clause-y c = c.odd_rows-odd.ensures.small 6 [] (search rules)

pub added_lanes-requires-8-clause-x : goal.added_lanes-requires-8-clause-x
added_lanes-requires-8-clause-x c = c.dct_of_8.ensures.small 7 [] (search rules)

pub added_lanes-requires-8-clause-y : goal.added_lanes-requires-8-clause-y
added_lanes-requires-8-clause-y c = c.odd_rows-odd.ensures.small 7 [] (search rules)

pub returns-clause-gives : goal.returns-clause-gives
returns-clause-gives c =
    let made : Sixteen c.args.t.now c.dct_of_8.new.t c.odd_rows-odd.result
    c.added_lanes.result.0 c.added_lanes-2.result.0 c.added_lanes-3.result.0 c.added_lanes-4.result.0 c.added_lanes-5.result.0 c.added_lanes-6.result.0 c.added_lanes-7.result.0 c.added_lanes-8.result.0
    c.added_lanes.result.1 c.added_lanes-2.result.1 c.added_lanes-3.result.1 c.added_lanes-4.result.1 c.added_lanes-5.result.1 c.added_lanes-6.result.1 c.added_lanes-7.result.1 c.added_lanes-8.result.1 =
    record {
      size = c.requires.size;
      few = c.requires.few;
      even_size = search rules;
      odd_size = search rules;
      even_made = c.dct_of_8.ensures.gives;
      odd_made = c.odd_rows-odd.ensures.gives;
      sums_0 = c.added_lanes.ensures.made;
      sums_1 = c.added_lanes-2.ensures.made;
      sums_2 = c.added_lanes-3.ensures.made;
      sums_3 = c.added_lanes-4.ensures.made;
      sums_4 = c.added_lanes-5.ensures.made;
      sums_5 = c.added_lanes-6.ensures.made;
      sums_6 = c.added_lanes-7.ensures.made;
      sums_7 = c.added_lanes-8.ensures.made;
    } in
    sixteen_given c.args.t.now c.dct_of_8.new.t c.odd_rows-odd.result
    c.added_lanes.result.0 c.added_lanes-2.result.0 c.added_lanes-3.result.0 c.added_lanes-4.result.0 c.added_lanes-5.result.0 c.added_lanes-6.result.0 c.added_lanes-7.result.0 c.added_lanes-8.result.0
    c.added_lanes.result.1 c.added_lanes-2.result.1 c.added_lanes-3.result.1 c.added_lanes-4.result.1 c.added_lanes-5.result.1 c.added_lanes-6.result.1 c.added_lanes-7.result.1 c.added_lanes-8.result.1 made

pub returns-clause-small : goal.returns-clause-small
returns-clause-small c =
    let made : Sixteen c.args.t.now c.dct_of_8.new.t c.odd_rows-odd.result
    c.added_lanes.result.0 c.added_lanes-2.result.0 c.added_lanes-3.result.0 c.added_lanes-4.result.0 c.added_lanes-5.result.0 c.added_lanes-6.result.0 c.added_lanes-7.result.0 c.added_lanes-8.result.0
    c.added_lanes.result.1 c.added_lanes-2.result.1 c.added_lanes-3.result.1 c.added_lanes-4.result.1 c.added_lanes-5.result.1 c.added_lanes-6.result.1 c.added_lanes-7.result.1 c.added_lanes-8.result.1 =
    record {
      size = c.requires.size;
      few = c.requires.few;
      even_size = search rules;
      odd_size = search rules;
      even_made = c.dct_of_8.ensures.gives;
      odd_made = c.odd_rows-odd.ensures.gives;
      sums_0 = c.added_lanes.ensures.made;
      sums_1 = c.added_lanes-2.ensures.made;
      sums_2 = c.added_lanes-3.ensures.made;
      sums_3 = c.added_lanes-4.ensures.made;
      sums_4 = c.added_lanes-5.ensures.made;
      sums_5 = c.added_lanes-6.ensures.made;
      sums_6 = c.added_lanes-7.ensures.made;
      sums_7 = c.added_lanes-8.ensures.made;
    } in
    sixteen_small c.args.t.now c.dct_of_8.new.t c.odd_rows-odd.result
    c.added_lanes.result.0 c.added_lanes-2.result.0 c.added_lanes-3.result.0 c.added_lanes-4.result.0 c.added_lanes-5.result.0 c.added_lanes-6.result.0 c.added_lanes-7.result.0 c.added_lanes-8.result.0
    c.added_lanes.result.1 c.added_lanes-2.result.1 c.added_lanes-3.result.1 c.added_lanes-4.result.1 c.added_lanes-5.result.1 c.added_lanes-6.result.1 c.added_lanes-7.result.1 c.added_lanes-8.result.1 made
    (search rules) (search rules) (search rules) (search rules) (search rules) (search rules) (search rules) (search rules) (search rules) (search rules) (search rules) (search rules) (search rules) (search rules) (search rules) (search rules) c.requires.small
