-- What a tile column of a frame says, read by itself (6.4 of the standard: decode_tiles, which reads the tiles of all columns
-- row by row; that both are the same is the law `frames_are_read_by_columns`). No sample is needed to read it.
use Rattle.std.specs.Prelude.{ℕ, List, [], get_or, nat_eq, slice_range, if◌then◌else◌, Result, Ok}
use Rattle.std.specs.List.{range_with_len}
use Rattle.vp9_types.specs.Results.{◌>>=◌}
use Rattle.vp9_types.specs.declared.job.Span.{Span}
use Rattle.vp9_types.specs.declared.rule.Rule.{Rule}
use Rattle.bool_decoder.specs.Bools.{run_bools}
use Rattle.bool_decoder.specs.Window.{started}
use Rattle.frame_headers.specs.Spans.{tile_count}
use Rattle.frame_headers.specs.HeaderState.{shape_of}
use Rattle.frame_headers.specs.declared.header.Header.{Header}
use Rattle.counting_reader.specs.Counting.{Settled}
use Rattle.block_geometry.specs.FrameShapes.{places_of}
use Rattle.block_plan.specs.Planned.{PlannedBlock}
use Rattle.mode_syntax.specs.TileColumns.{read_all, tiles_of}
use Rattle.frame_state.specs.FrameReading.{Column, TileRead, column_after, no_column, read_tile}
use Rattle.frame_state.specs.Sources.{FrameSources}
use Rattle.frame_state.specs.TilePlaces.{column_of, tile_places}

-- its blocks and sides so far, and the blocks of each of its tiles that is read, by the tile's number in the frame
pub record ColumnRead : Type 0 where
  pub column : Column
  pub tiles : ℕ → List PlannedBlock

-- nothing is read
abbrev pub no_tiles : Header → ColumnRead
no_tiles header = record { column = no_column (shape_of header); tiles = λ n. [] }

-- a tile more
abbrev pub with_its_tile : ℕ → ColumnRead → Settled TileRead → Settled ColumnRead
with_its_tile n c s = record {
  value = record { column = column_after s.value; tiles = λ m. if nat_eq m n then s.value.blocks else c.tiles m };
  counted = s.counted;
}

-- the bytes of a tile, by where the tiles lie
abbrev pub tile_bytes : List ℕ → List Span → ℕ → List ℕ
tile_bytes bytes spans n = slice_range bytes (get_or spans n (record { from = 0; to = 0 })).from (get_or spans n (record { from = 0; to = 0 })).to

-- the n-th tile of a frame, by an arithmetic decoder of its own over its bytes, behind the tiles above it
unfoldable pub column_tile : FrameSources → (ℕ → List ℕ) → ℕ → ColumnRead → Result (Settled ColumnRead) Rule
column_tile by bytes n c = do
  window ← started (bytes n)
  read ← run_bools (read_tile by (tile_places (places_of (shape_of by.header)) by.header.params.tiles n) c.column) window
  Ok (with_its_tile n c read.0)

-- The plan of the k-th tile column, by the bytes of each tile: all of its tiles in order, and what is counted in them; or the
-- first rule that is broken in it, with its tile's number.
unfoldable pub plan_of : FrameSources → (ℕ → List ℕ) → ℕ → Result (Settled ColumnRead) (ℕ × Rule)
plan_of by bytes k =
    read_all (column_tile by bytes) (tiles_of (column_of by.header.params.tiles) k (range_with_len 0 (tile_count by.header))) (no_tiles by.header)
