use Rattle.std.proofs.Common.{◌*◌, refl, sym}
use Rattle.frame_state.specs.TilePlaces.{first_superblock}
use Rattle.mode_syntax.specs.Superblocks.{superblocks_of}
use Rattle.mode_syntax.specs.Walk.{decode_tile}
use Rattle.frame_decoder.specs.Code.{walk_of}
use Rattle.frame_decoder.proofs.PlainTiles.{tile_given}
use Rattle.frame_decoder.proofs.tiles.read_tile.Goals as goal

pub returns-clause-gives : goal.returns-clause-gives
returns-clause-gives g c =
    rw (sym c.superblocks-across.ensures.is, sym c.superblocks-down.ensures.is)
    (tile_given (decode_tile (walk_of c.args.plain.now.by.now c.args.plain.now.column.now) (superblocks_of (first_superblock c.args.tile.now) c.superblocks-down.result c.superblocks-across.result)) (64 * (c.superblocks-across.result * c.superblocks-down.result)) _ c.read_rows.result c.args.plain.now.reader.now _ _ _ c.read_rows.new.reader.column.now c.read_rows.new.reader.planes.now c.read_rows.new.reader.reader.now refl refl c.read_rows.ensures.ends)
