use Rattle.std.proofs.Common.{rules}
use Rattle.std.specs.Prelude.{slice_index}
use Rattle.inverse_transforms.specs.Flow.{rotated_wide}
use Rattle.inverse_transforms.proofs.ColumnLemmas.{wide_made, four_ok, four_err, four_small_after}
use Rattle.inverse_transforms.proofs.lane_steps.rotate_wide.Goals as goal

pub returns-then-not-fit-clause-gives : goal.returns-then-not-fit-clause-gives
returns-then-not-fit-clause-gives c =
    let w = c.rotated_wide_lanes-fit in
    let made = wide_made c.args.limit c.args.first c.args.second c.by.result.angle c.by-2.result.angle c.args.t.now (slice_index c.args.places 0) (slice_index c.args.places 1) (slice_index c.args.places 2) (slice_index c.args.places 3)
    w.result.0 w.result.1 w.result.2 w.result.3 w.result.4 c.by.ensures c.by-2.ensures
    c.requires.a c.requires.b c.requires.c c.requires.d w.ensures.made w.ensures.fit in
    four_err c.args.limit (rotated_wide c.args.limit c.args.first c.args.second) c.args.t.now (slice_index c.args.places 0) (slice_index c.args.places 1) (slice_index c.args.places 2) (slice_index c.args.places 3)
    w.result.0 w.result.1 w.result.2 w.result.3 w.result.4 made c.if-not-fit.true

pub returns-clause-gives : goal.returns-clause-gives
returns-clause-gives c =
    let w = c.rotated_wide_lanes-fit in
    let made = wide_made c.args.limit c.args.first c.args.second c.by.result.angle c.by-2.result.angle c.args.t.now (slice_index c.args.places 0) (slice_index c.args.places 1) (slice_index c.args.places 2) (slice_index c.args.places 3)
    w.result.0 w.result.1 w.result.2 w.result.3 w.result.4 c.by.ensures c.by-2.ensures
    c.requires.a c.requires.b c.requires.c c.requires.d w.ensures.made w.ensures.fit in
    four_ok c.args.limit (rotated_wide c.args.limit c.args.first c.args.second) c.args.t.now (slice_index c.args.places 0) (slice_index c.args.places 1) (slice_index c.args.places 2) (slice_index c.args.places 3)
    w.result.0 w.result.1 w.result.2 w.result.3 w.result.4 made c.if-not-fit.false

pub returns-clause-small : goal.returns-clause-small
returns-clause-small c =
    let w = c.rotated_wide_lanes-fit in
    let made = wide_made c.args.limit c.args.first c.args.second c.by.result.angle c.by-2.result.angle c.args.t.now (slice_index c.args.places 0) (slice_index c.args.places 1) (slice_index c.args.places 2) (slice_index c.args.places 3)
    w.result.0 w.result.1 w.result.2 w.result.3 w.result.4 c.by.ensures c.by-2.ensures
    c.requires.a c.requires.b c.requires.c c.requires.d w.ensures.made w.ensures.fit in
    four_small_after c.args.limit (rotated_wide c.args.limit c.args.first c.args.second) c.args.t.now (slice_index c.args.places 0) (slice_index c.args.places 1) (slice_index c.args.places 2) (slice_index c.args.places 3)
    w.result.0 w.result.1 w.result.2 w.result.3 w.result.4 c.requires.limit (search rules) (search rules) (search rules) (search rules)
    made c.if-not-fit.false c.requires.small
