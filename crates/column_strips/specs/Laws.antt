-- A row of superblocks of a frame whose tiles are all read, made of the strips of its tile columns.
use Rattle.std.specs.Prelude.{ℕ, ◌≡◌, ◌<◌, ◌^◌, List, get_or, length, Ok}
use Rattle.vp9_types.specs.declared.block.ReferenceFrame.{ReferenceFrame}
use Rattle.vp9_types.specs.declared.job.Span.{Span}
use Rattle.frame_headers.specs.Spans.{tile_spans}
use Rattle.frame_headers.specs.HeaderState.{shape_of}
use Rattle.counting_reader.specs.Counting.{Settled}
use Rattle.planes.specs.declared.frame_planes.FramePlanes.{FramePlanes}
use Rattle.block_rebuild.specs.InterBlocks.{Rebuilding, ReferencePicture}
use Rattle.recon_rows.specs.frame_state.ColumnPlans.{ColumnRead, plan_of, tile_bytes}
use Rattle.recon_rows.specs.frame_state.FrameReading.{FrameRead, read_all_tiles}
use Rattle.recon_rows.specs.frame_state.Sources.{FrameSources}
use Rattle.recon_rows.specs.column_order.ColumnStrips.{column_from, column_to}
use Rattle.recon_rows.specs.OwnStrips.{HoldsStrip}

-- a frame's blocks and its tile columns, each of them read by itself
pub record AreFrameColumns (by : FrameSources) (bytes : List ℕ) (compressed : Span) (read : FrameRead) (plans : ℕ → Settled ColumnRead) : Type 0 where
  pub spans : List Span
  pub cut : tile_spans bytes by.header compressed ≡ Ok spans
  pub frame : read_all_tiles by bytes compressed ≡ Ok read
  pub columns : (k : ℕ) → k < 2 ^ by.header.params.tiles.columns_log2 → plan_of by (tile_bytes bytes spans) k ≡ Ok (plans k)

abbrev pub rebuilding : FrameSources → (ReferenceFrame → ReferencePicture) → Rebuilding
rebuilding by references = record { shape = shape_of by.header; references = references }

-- the k-th of the strips is that of the k-th tile column in row r of superblocks
pub record AreColumnStrips {X : Type 0} (put : Rebuilding) (by : FrameSources) (plans : ℕ → Settled ColumnRead) (r : ℕ) (strips : List (FramePlanes X)) : Type 0 where
  pub many : length strips ≡ 2 ^ by.header.params.tiles.columns_log2
  pub each : (k : ℕ) (d : FramePlanes X) → k < length strips
      → HoldsStrip put (column_from by.header k) (column_to by.header k) r (plans k).value.column.blocks (get_or strips k d)
