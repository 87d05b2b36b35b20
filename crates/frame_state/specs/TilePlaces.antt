-- Where the tiles of a frame lie (6.4 and 7.4.1 of the standard: get_tile_offset).
use Rattle.std.specs.Prelude.{ℕ, ◌+◌, ◌-◌, ◌*◌, ◌/◌, ◌%◌, ◌^◌, List, min}
use Rattle.vp9_types.specs.Sizes.{superblocks_along}
use Rattle.frame_headers.specs.declared.tiles.TileInfo.{TileInfo}
use Rattle.block_geometry.specs.declared.transform_blocks.FramePlaces.{FramePlaces}
use Rattle.mode_syntax.specs.Superblocks.{superblocks_of}
use Rattle.mode_syntax.specs.declared.square_at.SquareAt.{SquareAt}
use Rattle.frame_state.specs.declared.tile_places.TilePlaces.{TilePlaces}

-- how many superblocks lie before the i-th of 2 ^ log2 tiles, along so many places of 8x8
abbrev pub superblocks_before : ℕ → ℕ → ℕ → ℕ
superblocks_before places log2 i = i * superblocks_along places / 2 ^ log2

-- where it begins, in places
abbrev pub tile_offset : ℕ → ℕ → ℕ → ℕ
tile_offset places log2 i = min (8 * superblocks_before places log2 i) places

-- tiles are numbered row by row
abbrev pub tile_row_of : TileInfo → ℕ → ℕ
tile_row_of tiles n = n / 2 ^ tiles.columns_log2

abbrev pub column_of : TileInfo → ℕ → ℕ
column_of tiles n = n % 2 ^ tiles.columns_log2

-- the n-th tile of a frame
unfoldable pub tile_places : FramePlaces → TileInfo → ℕ → TilePlaces
tile_places frame tiles n = record {
  row_from = tile_offset frame.rows tiles.rows_log2 (tile_row_of tiles n);
  row_to = tile_offset frame.rows tiles.rows_log2 (tile_row_of tiles n + 1);
  col_from = tile_offset frame.cols tiles.columns_log2 (column_of tiles n);
  col_to = tile_offset frame.cols tiles.columns_log2 (column_of tiles n + 1);
}

-- the first superblock of a tile, and all of them
abbrev pub first_superblock : TilePlaces → SquareAt
first_superblock tile = record { row = tile.row_from; col = tile.col_from; level = 3; tile_from = tile.col_from; tile_to = tile.col_to }

abbrev pub tile_superblocks : TilePlaces → List SquareAt
tile_superblocks tile = superblocks_of (first_superblock tile) (superblocks_along (tile.row_to - tile.row_from)) (superblocks_along (tile.col_to - tile.col_from))
