use Rattle.std.proofs.Common.{◌≡◌, ap, arith, refl}
use Rattle.std.specs.Prelude.{nat_eq, not}
use Rattle.vp9_types.specs.Shapes.{mi_rows}
use Rattle.frame_headers.specs.HeaderState.{shape_of}
use Rattle.block_geometry.specs.declared.transform_blocks.FramePlaces.{FramePlaces}
use Rattle.frame_state.specs.TilePlaces.{column_of}
use Rattle.frame_state.proofs.ColumnSteps.{begins_there, cleared_fit, ends_there, has_room, ready_of, rows_in_order, rows_within}
use Rattle.tile_syntax.proofs.NextTiles.{column_next, gives_next}
use Rattle.tile_syntax.proofs.plans.plan_nth.Goals as goal

pub plan_tile-requires-clause-ready : goal.plan_tile-requires-clause-ready
plan_tile-requires-clause-ready g c =
    rw c.clear_left.ensures (ready_of c.args.by.now.setting c.args.n (column_of c.args.by.now.setting.header.params.tiles c.args.n) c.args.plan.now.column _ c.requires.column
    (cleared_fit (shape_of c.args.by.now.setting.header) c.args.plan.now.column.sides c.requires.column.fit))

pub plan_tile-requires-clause-from : goal.plan_tile-requires-clause-from
plan_tile-requires-clause-from g c = begins_there c.args.by.now.setting c.args.n _ _ c.new-tile.result refl c.new-tile.ensures c.requires.column

pub plan_tile-requires-clause-to : goal.plan_tile-requires-clause-to
plan_tile-requires-clause-to g c = ends_there c.args.by.now.setting c.args.n _ _ c.new-tile.result refl c.new-tile.ensures c.requires.column

pub plan_tile-requires-clause-order : goal.plan_tile-requires-clause-order
plan_tile-requires-clause-order g c = rows_in_order c.args.by.now.setting.places c.args.by.now.setting.header.params.tiles c.args.n c.new-tile.result c.new-tile.ensures

pub plan_tile-requires-clause-low : goal.plan_tile-requires-clause-low
plan_tile-requires-clause-low g c =
    let within = rows_within c.args.by.now.setting.places c.args.by.now.setting.header.params.tiles c.args.n c.new-tile.result c.new-tile.ensures in
    let rows : c.args.by.now.setting.places.rows ≡ mi_rows (shape_of c.args.by.now.setting.header) = ap (λ (p : FramePlaces). p.rows) c.args.by.now.setting.whole in
    omega (arith, within, rows, c.args.by.now.setting.size.3)

pub plan_tile-requires-clause-room : goal.plan_tile-requires-clause-room
plan_tile-requires-clause-room g c =
    has_room c.args.by.now.setting c.args.n (column_of c.args.by.now.setting.header.params.tiles c.args.n) c.args.plan.now.column c.new-tile.result c.requires.below refl c.new-tile.ensures c.requires.column

pub returns-clause-gives : goal.returns-clause-gives
returns-clause-gives g c =
    gives_next c.args.by.now c.args.n c.args.plan.now c.plan_tile.new.plan c.new-tile.result c.args.bytes.now c.args.counts (not (nat_eq g.row.COUNTS 0)) c.plan_tile.result c.new-tile.ensures c.requires.column
    (rw c.clear_left.ensures at c.plan_tile.ensures.gives)

pub returns-clause-column : goal.returns-clause-column
returns-clause-column g c =
    column_next c.args.by.now.setting c.args.n c.args.plan.now.column c.plan_tile.new.plan.column c.new-tile.result c.plan_tile.result c.requires.below c.new-tile.ensures c.requires.column
    c.plan_tile.ensures.ready (rw c.clear_left.ensures at c.plan_tile.ensures.same) c.plan_tile.ensures.room
