-- The tile columns that the code keeps.
use Rattle.std.specs.Prelude.{◌≡◌, ◌<◌, All, ◌≤◌, ◌+◌, ◌-◌, ◌*◌, ◌^◌, ℕ, List, map, length, slice_index_or}
use Rattle.vp9_types.specs.Shapes.{mi_cols, mi_rows}
use Rattle.vp9_types.specs.Sizes.{superblocks_along}
use Rattle.vp9_tables.specs.BlockTables.{greatest_of}
use Rattle.vp9_tables.specs.Numbers.{tx_number}
use Rattle.frame_headers.specs.FrameSizes.{IsFrameSize}
use Rattle.frame_headers.specs.Spans.{tile_count}
use Rattle.frame_headers.specs.HeaderState.{shape_of}
use Rattle.frame_headers.specs.Tiles.{AreFewTiles}
use Rattle.frame_headers.specs.declared.header.Header.{Header}
use Rattle.block_geometry.specs.BlockSizes.{width_8}
use Rattle.block_plan.specs.BlockMvs.{vector_of}
use Rattle.block_plan.specs.declared.block.BlockInfo.{BlockInfo}
use Rattle.residue_syntax.specs.Code.{FitPlanes}
use Rattle.block_plan.specs.declared.block.InterPrediction.{InterPrediction}
use Rattle.block_plan.specs.declared.block.Prediction.TheVariants.{Inter}
use Rattle.mv_prediction.specs.Vectors.{IsSmallVector}
use Rattle.frame_state.specs.TilePlaces.{superblocks_before, tile_offset}
use Rattle.frame_state.specs.declared.columns.TileColumn.{TileColumn}

-- the blocks of tile columns
abbrev pub blocks_of : List TileColumn → List (List BlockInfo)
blocks_of columns = map (λ c. c.grid.blocks) columns

-- the end of its columns of superblocks
abbrev pub limit_of : TileColumn → ℕ
limit_of c = c.grid.from + 8 * superblocks_along (c.grid.to - c.grid.from)

-- no block has a transform that is larger than it
abbrev pub AllFit : List BlockInfo → Type 0
AllFit blocks = All (λ b. tx_number b.tx ≤ greatest_of b.size) blocks

-- blocks start inside a frame of so many places, and each has one of the eight segments
abbrev pub AllStart : ℕ → ℕ → List BlockInfo → Type 0
AllStart rows cols blocks = All (λ b. (b.row < rows) × (b.col < cols) × (b.segment < 8)) blocks

-- no vector of a block is large
abbrev pub AllSmall : List BlockInfo → Type 0
AllSmall blocks = All (λ b. (modes : InterPrediction) (quarter list : ℕ) → b.prediction ≡ Inter modes → IsSmallVector (vector_of modes quarter list)) blocks

-- blocks lie in the superblocks of a tile's columns
abbrev pub AllLie : ℕ → ℕ → List BlockInfo → Type 0
AllLie from limit blocks = All (λ b. (from ≤ b.col) × (b.col + width_8 b.size ≤ limit)) blocks

-- a tile column of a frame before its n-th tile is decoded: it has room for all blocks of its tiles from there on
pub record IsTileColumn (header : Header) (n k : ℕ) (c : TileColumn) : Type 0 where
  pub rows : c.grid.rows ≡ mi_rows (shape_of header)
  pub from : c.grid.from ≡ tile_offset (mi_cols (shape_of header)) header.params.tiles.columns_log2 k
  pub to : c.grid.to ≡ tile_offset (mi_cols (shape_of header)) header.params.tiles.columns_log2 (k + 1)
  pub fit : FitPlanes (shape_of header) c.sides
  pub fit_blocks : AllFit c.grid.blocks
  pub lie : AllLie c.grid.from (limit_of c) c.grid.blocks
  pub starts : AllStart (mi_rows (shape_of header)) (mi_cols (shape_of header)) c.grid.blocks
  pub small : AllSmall c.grid.blocks
  pub room : (r : ℕ) → n ≤ r * 2 ^ header.params.tiles.columns_log2 + k
      → 64 * (superblocks_along (c.grid.to - c.grid.from)
      * (superblocks_along (mi_rows (shape_of header)) - superblocks_before (mi_rows (shape_of header)) header.params.tiles.rows_log2 r)) ≤ c.grid.room

pub record AreTileColumns (header : Header) (n : ℕ) (columns : List TileColumn) : Type 0 where
  pub many : length columns ≡ 2 ^ header.params.tiles.columns_log2
  pub each : (k : ℕ) (d : TileColumn) → k < length columns → IsTileColumn header n k (slice_index_or columns k d)

-- a frame's tile columns, behind its last tile
pub record AreColumnsOf (header : Header) (columns : List TileColumn) : Type 0 where
  pub size : IsFrameSize header.size
  pub few : AreFewTiles header.params.tiles
  pub are : AreTileColumns header (tile_count header) columns

-- each block of a column starts inside its frame, and has one of the eight segments
abbrev pub HasStarts : Header → TileColumn → Type 0
HasStarts header c = AllStart (mi_rows (shape_of header)) (mi_cols (shape_of header)) c.grid.blocks
