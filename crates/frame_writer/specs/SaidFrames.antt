-- What the tiles of a frame say, one after another (6.4 of the standard: decode_tiles, decode_tile).
use Rattle.std.specs.Prelude.{ℕ, zero, suc, ◌+◌, List, [], ◌∷◌, ◌++◌, get_or, slice_set, Result, Ok}
use Rattle.vp9_types.specs.Results.{◌>>=◌}
use Rattle.vp9_types.specs.Syntax.{Syntax}
use Rattle.vp9_types.specs.declared.rule.Rule.{Rule}
use Rattle.bool_lists.specs.BoolLists.{BoolList}
use Rattle.counting_reader.specs.Counting.{Settled}
use Rattle.frame_headers.specs.Spans.{tile_count}
use Rattle.frame_headers.specs.HeaderState.{shape_of}
use Rattle.frame_headers.specs.declared.header.Header.{Header}
use Rattle.block_geometry.specs.FrameShapes.{places_of}
use Rattle.block_geometry.specs.declared.transform_blocks.FramePlaces.{FramePlaces}
use Rattle.block_plan.specs.Planned.{PlannedBlock}
use Rattle.mode_syntax.specs.Walk.{decode_tile}
use Rattle.frame_state.specs.FrameReading.{Column, FrameRead, TileRead, begun, column_after, column_at, no_column, nothing_read, read_walk}
use Rattle.frame_state.specs.Sources.{FrameSources}
use Rattle.frame_state.specs.TilePlaces.{column_of, tile_places, tile_superblocks}
use Rattle.frame_state.specs.declared.tile_places.TilePlaces.{TilePlaces}
use Rattle.tile_writer.specs.SaidTiles.{Said, said_tile, so_far}
use Rattle.tile_writer.specs.declared.unwritten.Unwritten.{Unwritten}
use Rattle.frame_writer.specs.FrameSymbols.{Speaker, teller_of}

---- A tile ----

-- how a tile is read, and what it is told, behind what reading keeps
abbrev pub tile_syntax : FrameSources → FramePlaces → TilePlaces → TileRead → Syntax ℕ Rule (Settled TileRead)
tile_syntax by frame tile s =
    decode_tile (read_walk by frame tile) (tile_superblocks tile) s

abbrev pub tile_told : {T : Type 0} → Speaker T → FrameSources → FramePlaces → TilePlaces → TileRead → T → Said TileRead T
tile_told speaker by frame tile s t =
    said_tile (read_walk by frame tile) (teller_of speaker by) (tile_superblocks tile) (so_far s t [])

---- All tiles ----

-- the tile columns so far, and the blocks of all tiles in the order in which they are read
pub record FrameSaid : Type 0 where
  pub columns : List Column
  pub blocks : List PlannedBlock

-- what is read says this; what it counts is not said
abbrev pub said_of : FrameRead → FrameSaid
said_of read = record { columns = read.columns; blocks = read.blocks }

-- a tile more
abbrev pub with_tile_said : ℕ → FrameSaid → TileRead → FrameSaid
with_tile_said k f s = record { columns = slice_set f.columns k (column_after s); blocks = f.blocks ++ s.blocks }

abbrev pub column_said : Header → FrameSaid → ℕ → Column
column_said header f k = get_or f.columns k (no_column (shape_of header))

-- how the n-th tile is read, behind what its column has
abbrev pub nth_syntax : FrameSources → ℕ → FrameRead → Syntax ℕ Rule (Settled TileRead)
nth_syntax by n read =
    tile_syntax by (places_of (shape_of by.header)) (tile_places (places_of (shape_of by.header)) by.header.params.tiles n)
    (begun (shape_of by.header) (column_at by.header read (column_of by.header.params.tiles n)))

-- and what it is told there
abbrev pub nth_tile_told : {T : Type 0} → Speaker T → FrameSources → ℕ → FrameRead → T → Said TileRead T
nth_tile_told speaker by n read t =
    tile_told speaker by (places_of (shape_of by.header)) (tile_places (places_of (shape_of by.header)) by.header.params.tiles n)
    (begun (shape_of by.header) (column_at by.header read (column_of by.header.params.tiles n))) t

-- what is told of a frame so far: what it says, who tells the rest, and the bools of each tile
pub record FrameTold (T : Type 0) : Type 0 where
  pub said : FrameSaid
  pub told : T
  pub tiles : List BoolList

abbrev pub told_so_far : {T : Type 0} → FrameSaid → T → List BoolList → FrameTold T
told_so_far said t tiles = record { said = said; told = t; tiles = tiles }

-- what a tile is told, behind what is told before it
unfoldable pub nth_told : {T : Type 0} → Speaker T → FrameSources → ℕ → FrameTold T → Result (FrameTold T) Unwritten
nth_told speaker by n p = do
  tile ← tile_told speaker by (places_of (shape_of by.header)) (tile_places (places_of (shape_of by.header)) by.header.params.tiles n)
      (begun (shape_of by.header) (column_said by.header p.said (column_of by.header.params.tiles n))) p.told
  Ok (told_so_far (with_tile_said (column_of by.header.params.tiles n) p.said tile.state) tile.told (p.tiles ++ tile.bools ∷ []))

-- so many tiles from the n-th on, in order, or why they end before
unfoldable pub tiles_told : {T : Type 0} → Speaker T → FrameSources → ℕ → ℕ → FrameTold T → Result (FrameTold T) Unwritten
tiles_told speaker by n zero p = Ok p
tiles_told speaker by n (suc more) p = nth_told speaker by n p >>= tiles_told speaker by (n + 1) more

-- all of a frame
abbrev pub frame_told : {T : Type 0} → Speaker T → FrameSources → T → Result (FrameTold T) Unwritten
frame_told speaker by t = tiles_told speaker by 0 (tile_count by.header) (told_so_far (said_of (nothing_read by.header)) t [])
