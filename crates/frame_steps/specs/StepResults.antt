-- What the steps of a coded frame come to.
use Rattle.std.specs.Prelude.{◌≡◌, ◌≤◌, ◌<◌, ℕ, All, List, length, slice_index_or, IsOk, Some, None, Result, Ok, Err}
use Rattle.std.specs.Arc.{arc_value}
use Rattle.vp9_types.specs.declared.job.Span.{Span}
use Rattle.frame_headers.specs.FrameSizes.{HasFrameSize, IsFrameSize}
use Rattle.vp9_types.specs.Shapes.{mi_rows}
use Rattle.vp9_types.specs.Sizes.{superblocks_along}
use Rattle.frame_headers.specs.Spans.{tile_count, tile_spans}
use Rattle.frame_headers.specs.HeaderState.{shape_of}
use Rattle.frame_headers.specs.declared.header.FrameKind.{FrameKind}
use Rattle.frame_headers.specs.declared.header.FrameKind.TheVariants.{Key, IntraOnly, Inter}
use Rattle.block_plan.specs.declared.block.BlockInfo.{BlockInfo}
use Rattle.band_needs.specs.Code.{shapes_of}
use Rattle.band_needs.specs.Needs.{needs_of}
use Rattle.band_needs.specs.declared.blocks.ReferenceShapes.{ReferenceShapes}
use Rattle.band_needs.specs.declared.ranges.BandNeeds.{BandNeeds}
use Rattle.recon_rows.specs.RebuiltRows.{blocks_between}
use Rattle.recon_rows.specs.tile_syntax.declared.plans.ColumnPlan.{ColumnPlan}
use Rattle.seq_decoder.specs.frame_decoder.DecodedFrames.{FrameResult}
use Rattle.frame_headers.specs.Tiles.{AreFewTiles}
use Rattle.frame_headers.specs.declared.header.Header.{Header}
use Rattle.inter_contexts.specs.BlockReferences.{reference_in}
use Rattle.vp9_types.specs.declared.block.ReferenceFrame.{ReferenceFrame}
use Rattle.prob_contexts.specs.ProbLists.{lists_of}
use Rattle.seq_decoder.specs.frame_state.Code.{IsBegun, counts_if}
use Rattle.seq_decoder.specs.frame_state.KeptColumns.{AreColumnsOf, HasStarts, IsTileColumn, blocks_of}
use Rattle.seq_decoder.specs.frame_state.Laws.{columns_across}
use Rattle.seq_decoder.specs.frame_state.ColumnPlans.{plan_of, tile_bytes}
use Rattle.seq_decoder.specs.frame_state.FrameReading.{FrameInput, FrameRead, blocks_read, read_all_tiles}
use Rattle.seq_decoder.specs.frame_state.Sources.{FramePast, FrameSources, adapts}
use Rattle.seq_decoder.specs.frame_state.declared.columns.TileColumn.{TileColumn}
use Rattle.seq_decoder.specs.frame_state.declared.halt.Halt.{Halt}
use Rattle.seq_decoder.specs.frame_state.declared.halt.Halt.TheVariants as halt
use Rattle.seq_decoder.specs.frame_decoder.declared.decoding.Decoded.{Decoded}
use Rattle.frame_close.specs.Code.{GivesColumn, result_at}
use Rattle.recon_rows.specs.tile_syntax.declared.plans.Unplanned.{Unplanned}
use Rattle.seq_decoder.specs.After.{decoded_in, input_of, segments_before, vectors_before}
use Rattle.seq_decoder.specs.Code.{HasPlaces, last_held, saved_lists, segments_held}
use Rattle.seq_decoder.specs.SavedContexts.{saved_before}
use Rattle.seq_decoder.specs.DecoderState.{State, last_size}
use Rattle.frame_steps.specs.declared.beginning.BegunFrame.{BegunFrame}
use Rattle.frame_steps.specs.declared.columns.PlannedColumn.{PlannedColumn}
use Rattle.recon_rows.specs.tile_syntax.Code.{IsPlanAsRead}

---- How a frame begins ----

-- what the frames before leave to it, as it is kept with it
abbrev pub past_by : BegunFrame → FramePast
past_by b = record {
  contexts = lists_of b.contexts;
  segments = segments_held (arc_value b.segments);
  vectors = vectors_before b.setting.header (last_held (arc_value b.last));
}

-- what its blocks are read by
abbrev pub sources_by : BegunFrame → FrameSources
sources_by b = record {
  header = b.setting.header;
  modes = b.setting.modes;
  contexts = lists_of b.setting.contexts;
  past = past_by b;
}

-- what it is read from
abbrev pub input_by : BegunFrame → FrameInput
input_by b = record { header = b.setting.header; compressed = b.compressed; bytes = b.bytes.now; past = past_by b }

-- the pictures that a frame refers to have sizes that frames have
abbrev pub HaveSizes : FrameKind → Type 0
HaveSizes Key = Unit {0}
HaveSizes IntraOnly = Unit {0}
HaveSizes (Inter fields) = (r : ReferenceFrame) → HasFrameSize (reference_in fields.references r).shape

-- its headers are read and break no rule, nor do the sizes of its tiles
pub record IsSound (b : BegunFrame) : Type 0 where
  pub size : IsFrameSize b.setting.header.size
  pub few : AreFewTiles b.setting.header.params.tiles
  pub references : HaveSizes b.setting.header.kind
  pub within : b.compressed.to ≤ length b.bytes.now
  pub begun : IsBegun b.setting.header b.bytes.now b.compressed (lists_of b.contexts) (Ok b.setting)
  pub places : HasPlaces (Some b.setting.header.size) (arc_value b.segments)

-- it begins in this state
pub record BeginsIn (state : State) (b : BegunFrame) : Type 0 where
  pub input : input_by b ≡ input_of state b.bytes.now b.setting.header b.compressed
  pub saved : saved_lists b.saved ≡ saved_before b.setting.header state.contexts
  pub segments : segments_held (arc_value b.segments) ≡ segments_before b.setting.header (last_size state.last) state.segments
  pub last : last_held (arc_value b.last) ≡ state.last

-- a frame of these bytes and this header begins so, or breaks the rule. Want of memory has no cause
abbrev pub GivesBegun : State → List ℕ → Header → Span → Result BegunFrame Halt → Type 0
GivesBegun state bytes header compressed (Ok b) = BeginsIn state b
GivesBegun state bytes header compressed (Err (halt.Broken rule)) = decoded_in state bytes header compressed ≡ Err rule
GivesBegun state bytes header compressed (Err halt.OutOfMemory) = Unit {0}

---- Its tile columns ----

-- the shapes of the pictures that a frame may refer to
abbrev pub shapes_by : FrameKind → ReferenceShapes
shapes_by Key = record { last = None; golden = None; altref = None }
shapes_by IntraOnly = record { last = None; golden = None; altref = None }
shapes_by (Inter fields) = record { last = Some fields.references.last.shape; golden = Some fields.references.golden.shape; altref = Some fields.references.altref.shape }

-- the bands of its references that a row of superblocks of a tile column with these blocks is predicted from
abbrev pub row_needs_of : Header → ℕ → List BlockInfo → BandNeeds
row_needs_of header row blocks = needs_of (shape_of header) (shapes_of (shapes_by header.kind)) (blocks_between (shape_of header) row blocks)

-- those of each row
pub record AreRowNeeds (header : Header) (blocks : List BlockInfo) (needs : List BandNeeds) : Type 0 where
  pub many : length needs ≡ superblocks_along (mi_rows (shape_of header))
  pub each : (row : ℕ) (d : BandNeeds) → row < length needs → slice_index_or needs row d ≡ row_needs_of header row blocks

abbrev pub counts_of : Result PlannedColumn Unplanned → Result (List ℕ) Unplanned
counts_of (Ok c) = Ok c.counts
counts_of (Err e) = Err e

-- a tile column that is planned is so as it is read, and the bands are known that its rows need
abbrev pub IsPlanned : BegunFrame → (ℕ → List ℕ) → ℕ → Result PlannedColumn Unplanned → Type 0
IsPlanned b tiles k (Ok c) = IsPlanAsRead (sources_by b) tiles k c.plan × AreRowNeeds b.setting.header c.plan.column.grid.blocks c.needs.items
IsPlanned b tiles k (Err e) = Unit {0}

-- the k-th tile column came to this
pub record IsColumn (b : BegunFrame) (k : ℕ) (result : Result PlannedColumn Unplanned) : Type 0 where
  pub counts : (spans : List Span) → tile_spans b.bytes.now b.setting.header b.compressed ≡ Ok spans →
      GivesColumn (adapts b.setting.header) (plan_of (sources_by b) (tile_bytes b.bytes.now spans) k) (counts_of result)
  pub plan : (spans : List Span) → tile_spans b.bytes.now b.setting.header b.compressed ≡ Ok spans → IsPlanned b (tile_bytes b.bytes.now spans) k result

---- Its end ----

-- A tile column with the blocks of the k-th one, as it is read.
pub record IsCopyAsRead (b : BegunFrame) (tiles : ℕ → List ℕ) (k : ℕ) (c : TileColumn) : Type 0 where
  pub plan : ColumnPlan
  pub read : IsPlanAsRead (sources_by b) tiles k plan
  pub blocks : c.grid.blocks ≡ plan.column.grid.blocks
  pub column : IsTileColumn b.setting.header (tile_count b.setting.header) k c

pub record AreAsRead (b : BegunFrame) (tiles : ℕ → List ℕ) (columns : List TileColumn) : Type 0 where
  pub many : length columns ≡ columns_across b.setting.header
  pub each : (k : ℕ) (d : TileColumn) → k < length columns → IsCopyAsRead b tiles k (slice_index_or columns k d)

-- What is kept of its tile columns: each came to this, and where all are planned these are they.
pub record AreCopies (b : BegunFrame) (results : List (Result (List ℕ) Unplanned)) (columns : List TileColumn) : Type 0 where
  pub many : length results ≡ columns_across b.setting.header
  pub told : (spans : List Span) (k : ℕ) → tile_spans b.bytes.now b.setting.header b.compressed ≡ Ok spans → k < length results →
      GivesColumn (adapts b.setting.header) (plan_of (sources_by b) (tile_bytes b.bytes.now spans) k) (result_at results k)
  pub kept : (spans : List Span) → tile_spans b.bytes.now b.setting.header b.compressed ≡ Ok spans → All IsOk results → AreAsRead b (tile_bytes b.bytes.now spans) columns

-- what a frame leaves beside its samples
pub record IsDecoded (b : BegunFrame) (read : FrameRead) (d : Decoded) : Type 0 where
  pub contexts : lists_of d.contexts ≡ lists_of b.setting.contexts
  pub blocks : blocks_of d.columns.items ≡ blocks_read read
  pub starts : All (HasStarts b.setting.header) d.columns.items
  pub columns : AreColumnsOf b.setting.header d.columns.items
  pub counts : d.counts ≡ counts_if (adapts b.setting.header) read.counted

-- all of its tiles are read, and it leaves that, or it breaks the rule. Want of memory has no cause
abbrev pub GivesDecoded : BegunFrame → Result Decoded Halt → Type 0
GivesDecoded b (Ok d) = (read : FrameRead) × (read_all_tiles (sources_by b) b.bytes.now b.compressed ≡ Ok read) × IsDecoded b read d
GivesDecoded b (Err (halt.Broken rule)) = read_all_tiles (sources_by b) b.bytes.now b.compressed ≡ Err rule
GivesDecoded b (Err halt.OutOfMemory) = Unit {0}

---- What it leaves ----

-- what the code holds of that beside the samples
pub record Leaves (header : Header) (d : Decoded) (r : FrameResult) : Type 0 where
  pub contexts : lists_of d.contexts ≡ r.contexts
  pub blocks : blocks_of d.columns.items ≡ r.blocks
  pub counts : d.counts ≡ counts_if (adapts header) r.counted
