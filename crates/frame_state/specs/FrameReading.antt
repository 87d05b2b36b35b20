-- What the tiles of a frame say, block by block (6.4, 6.4.2 and 6.4.4 of the standard: decode_tiles, decode_tile,
-- decode_block). No sample is needed to read them.
use Rattle.std.specs.Prelude.{ℕ, ◌+◌, ◌/◌, ◌^◌, Bool, false, List, [], ◌∷◌, ◌++◌, map, get_or, replicate, slice_range, slice_set, Result, Ok}
use Rattle.std.specs.List.{flat_map}
use Rattle.vp9_types.specs.Results.{◌>>=◌}
use Rattle.vp9_types.specs.Shapes.{coded_width, coded_height}
use Rattle.vp9_types.specs.Syntax.{Syntax}
use Rattle.vp9_types.specs.declared.block.Modes.{Modes}
use Rattle.vp9_types.specs.declared.job.Span.{Span}
use Rattle.vp9_types.specs.declared.rule.Rule.{Rule}
use Rattle.vp9_types.specs.declared.shape.Plane.{Plane}
use Rattle.vp9_types.specs.declared.shape.Plane.TheVariants.{Y, U, V}
use Rattle.vp9_types.specs.declared.shape.Shape.{Shape}
use Rattle.bool_decoder.specs.Bools.{run_bools}
use Rattle.bool_decoder.specs.Window.{started}
use Rattle.compressed_header.specs.CompressedHeader.{forward}
use Rattle.frame_headers.specs.Spans.{tile_spans}
use Rattle.frame_headers.specs.HeaderState.{shape_of}
use Rattle.frame_headers.specs.declared.header.Header.{Header}
use Rattle.prob_contexts.specs.ProbLists.{ContextLists}
use Rattle.prob_contexts.specs.declared.kind.CountedBool.{CountedBool}
use Rattle.counting_reader.specs.Counting.{Settled, lifted, settle}
use Rattle.counting_reader.specs.Counting as counting
use Rattle.block_geometry.specs.FrameShapes.{places_of}
use Rattle.block_geometry.specs.declared.transform_blocks.FramePlaces.{FramePlaces}
use Rattle.block_plan.specs.Planned.{PlannedBlock}
use Rattle.block_plan.specs.declared.block.BlockAt.{BlockAt}
use Rattle.block_plan.specs.declared.block.BlockInfo.{BlockInfo}
use Rattle.residue_syntax.specs.Residues as residues
use Rattle.residue_syntax.specs.Sides.{Sides}
use Rattle.residue_syntax.specs.declared.sides.TileSides.{TileSides}
use Rattle.inter_modes.specs.ModeInfo.{mode_info}
use Rattle.mode_syntax.specs.Walk.{TileWalk, decode_tile}
use Rattle.frame_state.specs.Sources.{block_sources, FramePast, FrameSources, frame_is_intra}
use Rattle.frame_state.specs.TilePlaces.{column_of, tile_places, tile_superblocks}
use Rattle.frame_state.specs.declared.tile_places.TilePlaces.{TilePlaces}

---- A tile ----

-- The blocks of its column in earlier tiles, its own so far, and where those above and at the left have coefficients. No block
-- and no transform block reaches into another tile column.
pub record TileRead : Type 0 where
  pub earlier : List PlannedBlock
  pub blocks : List PlannedBlock
  pub sides : TileSides

abbrev pub infos : List PlannedBlock → List BlockInfo
infos blocks = map (λ b. b.info) blocks

-- decode_block
unfoldable pub read_block : FrameSources → BlockAt → TileRead → Syntax ℕ Rule (Settled TileRead)
read_block by at s =
    counting.◌>>=◌ (mode_info (block_sources by) (infos (s.earlier ++ s.blocks)) at) (λ told.
    counting.◌>>=◌ (lifted told) (λ info.
    counting.◌>>=◌ (residues.block_residue by.header by.contexts at.tile_from info s.sides) (λ read.
    settle (record { earlier = s.earlier; blocks = s.blocks ++ read.0 ∷ []; sides = read.1 }))))

abbrev pub read_walk : FrameSources → FramePlaces → TilePlaces → TileWalk TileRead
read_walk by frame tile = record {
  frame = frame;
  tile_from = tile.col_from;
  tile_to = tile.col_to;
  intra = frame_is_intra by.header.kind;
  probs = by.contexts.partitions;
  block = read_block by;
  blocks = λ s. infos (s.earlier ++ s.blocks);
}

---- A tile column ----

-- its blocks so far, and where those above have coefficients in each plane
pub record Column : Type 0 where
  pub blocks : List PlannedBlock
  pub y : List Bool
  pub u : List Bool
  pub v : List Bool

-- a tile begins with nothing at its left
abbrev pub sides_below : Shape → Plane → List Bool → Sides
sides_below shape p above = record { above = above; left = replicate (coded_height shape p / 4) false }

abbrev pub begun : Shape → Column → TileRead
begun shape c = record {
  earlier = c.blocks;
  blocks = [];
  sides = record { y = sides_below shape Y c.y; u = sides_below shape U c.u; v = sides_below shape V c.v };
}

abbrev pub column_after : TileRead → Column
column_after s = record { blocks = s.earlier ++ s.blocks; y = s.sides.y.above; u = s.sides.u.above; v = s.sides.v.above }

-- nothing is read
abbrev pub no_column : Shape → Column
no_column shape = record {
  blocks = [];
  y = replicate (coded_width shape Y / 4) false;
  u = replicate (coded_width shape U / 4) false;
  v = replicate (coded_width shape V / 4) false;
}

-- a tile of a column, superblock by superblock
unfoldable pub read_tile : FrameSources → TilePlaces → Column → Syntax ℕ Rule (Settled TileRead)
read_tile by tile c =
    decode_tile (read_walk by (places_of (shape_of by.header)) tile) (tile_superblocks tile) (begun (shape_of by.header) c)

---- All tiles ----

-- the tile columns so far, the blocks of all tiles in the order in which they were read, and what was counted
pub record FrameRead : Type 0 where
  pub columns : List Column
  pub blocks : List PlannedBlock
  pub counted : List CountedBool

abbrev pub nothing_read : Header → FrameRead
nothing_read header = record {
  columns = replicate (2 ^ header.params.tiles.columns_log2) (no_column (shape_of header));
  blocks = [];
  counted = [];
}

abbrev pub column_at : Header → FrameRead → ℕ → Column
column_at header f k = get_or f.columns k (no_column (shape_of header))

abbrev pub with_tile : ℕ → FrameRead → Settled TileRead → FrameRead
with_tile k f s = record {
  columns = slice_set f.columns k (column_after s.value);
  blocks = f.blocks ++ s.value.blocks;
  counted = f.counted ++ s.counted;
}

-- the n-th tile, by an arithmetic decoder of its own over its bytes
unfoldable pub read_tile_of : FrameSources → ℕ → List ℕ → FrameRead → Result FrameRead Rule
read_tile_of by n bytes f = do
  window ← started bytes
  read ← run_bools (read_tile by (tile_places (places_of (shape_of by.header)) by.header.params.tiles n)
      (column_at by.header f (column_of by.header.params.tiles n))) window
  Ok (with_tile (column_of by.header.params.tiles n) f read.0)

-- the tiles from the n-th on, in order
unfoldable pub read_tiles : FrameSources → List ℕ → ℕ → List Span → FrameRead → Result FrameRead Rule
read_tiles by frame n [] f = Ok f
read_tiles by frame n (span ∷ spans) f =
    read_tile_of by n (slice_range frame span.from span.to) f >>= read_tiles by frame (n + 1) spans

-- all tiles of a frame, or the first rule that is broken: those of their sizes, and then tile by tile
abbrev pub read_all_tiles : FrameSources → List ℕ → Span → Result FrameRead Rule
read_all_tiles by bytes compressed =
    tile_spans bytes by.header compressed >>= λ spans. read_tiles by bytes 0 spans (nothing_read by.header)

-- its blocks as they are listed, tile column by tile column
abbrev pub blocks_read : FrameRead → List (List BlockInfo)
blocks_read read = map (λ c. infos c.blocks) read.columns

abbrev pub all_blocks : List (List BlockInfo) → List BlockInfo
all_blocks columns = flat_map (λ column. column) columns

---- A frame ----

-- what a frame is read from: its header, where its compressed header lies, its bytes, and what the frames before leave to it
pub record FrameInput : Type 0 where
  pub header : Header
  pub compressed : Span
  pub bytes : List ℕ
  pub past : FramePast

-- with the contexts and modes that its compressed header makes
abbrev pub sources : FrameInput → ContextLists × Modes → FrameSources
sources f updated = record { header = f.header; modes = updated.1; contexts = updated.0; past = f.past }

-- what it says behind its header, and what its blocks are read by; or the first rule that it breaks: the compressed header's,
-- and then those of its tiles
unfoldable pub read_frame : FrameInput → Result (FrameRead × FrameSources) Rule
read_frame f = do
  updated ← forward f.header f.past.contexts (slice_range f.bytes f.compressed.from f.compressed.to)
  read ← read_all_tiles (sources f updated) f.bytes f.compressed
  Ok (read, sources f updated)
