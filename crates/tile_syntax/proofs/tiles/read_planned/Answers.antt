use Rattle.std.proofs.Common.{◌≡◌, ◌*◌, ap, refl, sym}
use Rattle.std.specs.Borrow.{GName}
use Rattle.frame_state.specs.declared.sources.FrameSources.{FrameSources}
use Rattle.frame_headers.specs.HeaderState.{shape_of}
use Rattle.mode_syntax.specs.Superblocks.{superblocks_of}
use Rattle.mode_syntax.specs.Walk.{decode_tile}
use Rattle.frame_state.specs.Code.{sources_of}
use Rattle.frame_state.specs.TilePlaces.{first_superblock}
use Rattle.tile_syntax.specs.Code.{tile_held, plan_walk}
use Rattle.tile_syntax.proofs.PlanSteps.{plan_given, plan_same}
use Rattle.tile_syntax.proofs.tiles.read_planned.Goals as goal

pub returns-clause-gives : goal.returns-clause-gives
returns-clause-gives g c =
    let w = c.args.planning.now in
    let now = c.read_rows.new.reader in
    let same : now.by.now ≡ w.by.now = ap (λ (p : GName × GName × FrameSources). p.2) c.read_rows.ensures.kept in
    rw (sym c.superblocks-across.ensures.is, sym c.superblocks-down.ensures.is)
    (plan_same now.by.now w.by.now _ w.reader.now c.read_rows.result now.plan.now now.reader.now same
    (plan_given (decode_tile (plan_walk (sources_of w.by.now) w.by.now.setting.places w.plan.now.column.grid.from w.plan.now.column.grid.to) (superblocks_of (first_superblock c.args.tile.now) c.superblocks-down.result c.superblocks-across.result))
    (64 * (c.superblocks-across.result * c.superblocks-down.result)) _ c.read_rows.result w.reader.now _ _ _ (tile_held (shape_of now.by.now.setting.header) now.plan.now) now.reader.now refl refl c.read_rows.ensures.ends))
