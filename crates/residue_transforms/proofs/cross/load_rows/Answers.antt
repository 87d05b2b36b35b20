use Rattle.std.proofs.Common.{◌≡◌, ◌+◌, ◌*◌, arith, refl}
use Rattle.residue_transforms.specs.Fours.{eight_down}
use Rattle.residue_transforms.proofs.Loads.{four_again, eight_made, rows_loaded}
use Rattle.residue_transforms.proofs.cross.load_rows.Goals as goal

pub set_lanes-requires-2-clause-upper : goal.set_lanes-requires-2-clause-upper
set_lanes-requires-2-clause-upper c =
    four_again c.args.n c.args.from.now c.crossed_rows-upper.result.1 (c.args.place + c.args.k + 1) c.requires.small c.crossed_rows-upper.ensures.second

pub set_lanes-requires-2-clause-lower : goal.set_lanes-requires-2-clause-lower
set_lanes-requires-2-clause-lower c =
    four_again c.args.n c.args.from.now c.crossed_rows-lower.result.1 (c.args.place + c.args.k + 4 * c.args.n + 1) c.requires.small c.crossed_rows-lower.ensures.second

pub set_lanes-requires-3-clause-upper : goal.set_lanes-requires-3-clause-upper
set_lanes-requires-3-clause-upper c =
    four_again c.args.n c.args.from.now c.crossed_rows-upper.result.2 (c.args.place + c.args.k + 2) c.requires.small c.crossed_rows-upper.ensures.third

pub set_lanes-requires-3-clause-lower : goal.set_lanes-requires-3-clause-lower
set_lanes-requires-3-clause-lower c =
    four_again c.args.n c.args.from.now c.crossed_rows-lower.result.2 (c.args.place + c.args.k + 4 * c.args.n + 2) c.requires.small c.crossed_rows-lower.ensures.third

pub set_lanes-requires-4-clause-upper : goal.set_lanes-requires-4-clause-upper
set_lanes-requires-4-clause-upper c =
    four_again c.args.n c.args.from.now c.crossed_rows-upper.result.3 (c.args.place + c.args.k + 3) c.requires.small c.crossed_rows-upper.ensures.fourth

pub set_lanes-requires-4-clause-lower : goal.set_lanes-requires-4-clause-lower
set_lanes-requires-4-clause-lower c =
    four_again c.args.n c.args.from.now c.crossed_rows-lower.result.3 (c.args.place + c.args.k + 4 * c.args.n + 3) c.requires.small c.crossed_rows-lower.ensures.fourth

pub returns : goal.returns
returns c =
    let n = c.args.n in
    let xs = c.args.from.now in
    let p = c.args.place + c.args.k in
    let u = c.crossed_rows-upper in
    let l = c.crossed_rows-lower in
    let first : c.set_lanes.new.row ≡ eight_down n xs (c.args.place + c.args.k) =
    eight_made n xs p p (p + 4 * n) u.result.0 l.result.0 c.set_lanes.new.row c.requires.small refl refl u.ensures.first l.ensures.first c.set_lanes.ensures in
    let second : c.set_lanes-2.new.row ≡ eight_down n xs (c.args.place + (c.args.k + 1)) =
    eight_made n xs (c.args.place + (c.args.k + 1)) (p + 1) (p + 4 * n + 1) u.result.1 l.result.1 c.set_lanes-2.new.row c.requires.small (omega arith) (omega arith)
    u.ensures.second l.ensures.second c.set_lanes-2.ensures in
    let third : c.set_lanes-3.new.row ≡ eight_down n xs (c.args.place + (c.args.k + 2)) =
    eight_made n xs (c.args.place + (c.args.k + 2)) (p + 2) (p + 4 * n + 2) u.result.2 l.result.2 c.set_lanes-3.new.row c.requires.small (omega arith) (omega arith)
    u.ensures.third l.ensures.third c.set_lanes-3.ensures in
    let fourth : c.set_lanes-4.new.row ≡ eight_down n xs (c.args.place + (c.args.k + 3)) =
    eight_made n xs (c.args.place + (c.args.k + 3)) (p + 3) (p + 4 * n + 3) u.result.3 l.result.3 c.set_lanes-4.new.row c.requires.small (omega arith) (omega arith)
    u.ensures.fourth l.ensures.fourth c.set_lanes-4.ensures in
    rows_loaded n xs c.args.place c.args.k c.args.t.now c.set_lanes.new.row c.set_lanes-2.new.row c.set_lanes-3.new.row c.set_lanes-4.new.row c.requires.rows first second third fourth c.requires.loaded
