use Rattle.std.proofs.Common.{◌^◌, ◌≤◌, arith}
use Rattle.std.proofs.Math.Pow.{pow_mono}
use Rattle.frame_state.proofs.TileOffsets.{row_below}
use Rattle.frame_state.proofs.tile_places.TilePlaces.new.Goals as goal

pub tile_offset-requires-clause-there : goal.tile_offset-requires-clause-there
tile_offset-requires-clause-there c =
    let low = row_below c.args.tiles c.args.n c.requires.below in
    let few : 2 ^ c.args.tiles.rows_log2 ≤ 2 ^ 2 = pow_mono c.requires.few.1 in
    rw c.columns.ensures (omega (arith, low, few))

pub tile_offset-requires-2-clause-there : goal.tile_offset-requires-2-clause-there
tile_offset-requires-2-clause-there c =
    let low = row_below c.args.tiles c.args.n c.requires.below in
    let few : 2 ^ c.args.tiles.rows_log2 ≤ 2 ^ 2 = pow_mono c.requires.few.1 in
    rw c.columns.ensures (omega (arith, low, few))
