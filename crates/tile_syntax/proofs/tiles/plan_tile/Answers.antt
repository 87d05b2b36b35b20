use Rattle.std.proofs.lemmas.Result.{err_from_is_err_and}
use Rattle.frame_headers.specs.HeaderState.{shape_of}
use Rattle.frame_state.proofs.TileBytes.{counts_by_is, whole_not_started, whole_read}
use Rattle.tile_syntax.specs.Code.{tile_held}
use Rattle.tile_syntax.proofs.NextTiles.{breaks_whole}
use Rattle.tile_syntax.proofs.tiles.plan_tile.Goals as goal

pub returns-in_err-reader-clause-gives : goal.returns-in_err-reader-clause-gives
returns-in_err-reader-clause-gives g c =
    let p = err_from_is_err_and c.from_residual.result c.from_residual.ensures.1 in
    rw (p.1, p.2) (whole_not_started _ c.args.bytes.now _ c.in_err-reader.ensures)

pub returns-in_err-plan_blocks-clause-gives : goal.returns-in_err-plan_blocks-clause-gives
returns-in_err-plan_blocks-clause-gives g c =
    let p = err_from_is_err_and c.from_residual-in_err-plan_blocks.result c.from_residual-in_err-plan_blocks.ensures.1 in
    rw (p.1, p.2) (breaks_whole _ _ c.args.bytes.now _ c.in_ok-reader.ensures.0 c.in_err-plan_blocks.ensures.gives)

pub returns-clause-gives : goal.returns-clause-gives
returns-clause-gives g c =
    rw c.into_counts.ensures (whole_read _ c.args.bytes.now _ _ c.plan_blocks.new.reader (tile_held (shape_of c.args.by.now.setting.header) c.plan_blocks.new.plan) _
    (counts_by_is g.row.COUNTS) c.in_ok-reader.ensures.0 c.in_ok-reader.ensures.1 c.in_ok-plan_blocks.ensures.gives)
