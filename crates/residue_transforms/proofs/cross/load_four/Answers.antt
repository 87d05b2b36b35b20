use Rattle.std.proofs.Common.{◌≡◌, ◌∙◌, length, set, rules}
use Rattle.residue_transforms.proofs.Crossings.{four_set}
use Rattle.residue_transforms.proofs.Loads.{four_again, halves_made, halves_loaded, halves_rest, halves_small}
use Rattle.residue_transforms.proofs.cross.load_four.Goals as goal

pub set_lanes-requires-2-clause-upper : goal.set_lanes-requires-2-clause-upper
set_lanes-requires-2-clause-upper c = four_again 4 c.args.from.now c.crossed_rows-rows.result.1 1 c.requires.values c.crossed_rows-rows.ensures.second

pub set_lanes-requires-3-clause-upper : goal.set_lanes-requires-3-clause-upper
set_lanes-requires-3-clause-upper c = four_again 4 c.args.from.now c.crossed_rows-rows.result.2 2 c.requires.values c.crossed_rows-rows.ensures.third

pub set_lanes-requires-4-clause-upper : goal.set_lanes-requires-4-clause-upper
set_lanes-requires-4-clause-upper c = four_again 4 c.args.from.now c.crossed_rows-rows.result.3 3 c.requires.values c.crossed_rows-rows.ensures.fourth

pub returns-clause-loaded : goal.returns-clause-loaded
returns-clause-loaded c =
    let e = c.crossed_rows-rows.ensures in
    let u = c.crossed_rows-rows.result in
    let t = c.args.t.now in
    let size : length t ≡ 4 = search rules in
    halves_loaded c.args.from.now (set (set (set (set t 0 c.set_lanes.new.row) 1 c.set_lanes-2.new.row) 2 c.set_lanes-3.new.row) 3 c.set_lanes-4.new.row) c.requires.size
    (four_set t c.set_lanes.new.row c.set_lanes-2.new.row c.set_lanes-3.new.row c.set_lanes-4.new.row size
    ∙ halves_made c.args.from.now u.0 u.1 u.2 u.3 c.set_lanes.new.row c.set_lanes-2.new.row c.set_lanes-3.new.row c.set_lanes-4.new.row c.requires.values
    e.first e.second e.third e.fourth c.set_lanes.ensures c.set_lanes-2.ensures c.set_lanes-3.ensures c.set_lanes-4.ensures)

pub returns-clause-small : goal.returns-clause-small
returns-clause-small c =
    let e = c.crossed_rows-rows.ensures in
    let u = c.crossed_rows-rows.result in
    let t = c.args.t.now in
    let size : length t ≡ 4 = search rules in
    halves_small c.args.from.now (set (set (set (set t 0 c.set_lanes.new.row) 1 c.set_lanes-2.new.row) 2 c.set_lanes-3.new.row) 3 c.set_lanes-4.new.row) c.requires.values
    (four_set t c.set_lanes.new.row c.set_lanes-2.new.row c.set_lanes-3.new.row c.set_lanes-4.new.row size
    ∙ halves_made c.args.from.now u.0 u.1 u.2 u.3 c.set_lanes.new.row c.set_lanes-2.new.row c.set_lanes-3.new.row c.set_lanes-4.new.row c.requires.values
    e.first e.second e.third e.fourth c.set_lanes.ensures c.set_lanes-2.ensures c.set_lanes-3.ensures c.set_lanes-4.ensures)

pub returns-clause-rest : goal.returns-clause-rest
returns-clause-rest c = λ j past low.
    let e = c.crossed_rows-rows.ensures in
    let u = c.crossed_rows-rows.result in
    let t = c.args.t.now in
    let size : length t ≡ 4 = search rules in
    halves_rest c.args.from.now (set (set (set (set t 0 c.set_lanes.new.row) 1 c.set_lanes-2.new.row) 2 c.set_lanes-3.new.row) 3 c.set_lanes-4.new.row)
    (four_set t c.set_lanes.new.row c.set_lanes-2.new.row c.set_lanes-3.new.row c.set_lanes-4.new.row size
    ∙ halves_made c.args.from.now u.0 u.1 u.2 u.3 c.set_lanes.new.row c.set_lanes-2.new.row c.set_lanes-3.new.row c.set_lanes-4.new.row c.requires.values
    e.first e.second e.third e.fourth c.set_lanes.ensures c.set_lanes-2.ensures c.set_lanes-3.ensures c.set_lanes-4.ensures) j past
