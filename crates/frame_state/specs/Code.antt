-- What the code keeps of a frame that is read, and what its calls answer.
use Rattle.std.specs.Prelude.{◌≡◌, ◌≤◌, true, false, Bool, List, ℕ, min, slice_range, IsOk, Result, Ok, Err}
use Rattle.vp9_types.specs.Results.{map_ok, ◌>>=◌}
use Rattle.vp9_types.specs.Syntax.{Syntax}
use Rattle.vp9_types.specs.declared.job.Span.{Span}
use Rattle.vp9_types.specs.declared.rule.Rule.{Rule}
use Rattle.bool_decoder.specs.Bools.{run_bools}
use Rattle.bool_decoder.specs.Window.{Window, started}
use Rattle.compressed_header.specs.CompressedHeader.{forward}
use Rattle.frame_headers.specs.Spans.{tile_spans}
use Rattle.frame_headers.specs.HeaderState.{shape_of}
use Rattle.frame_headers.specs.declared.header.Header.{Header}
use Rattle.frame_setting.specs.declared.setting.FrameSetting.{FrameSetting}
use Rattle.prob_contexts.specs.Code.{counts_after, no_counts}
use Rattle.prob_contexts.specs.ProbLists.{ContextLists, lists_of}
use Rattle.prob_contexts.specs.declared.kind.CountedBool.{CountedBool}
use Rattle.counting_reader.specs.Counting.{Settled}
use Rattle.block_plan.specs.declared.block.BlockInfo.{BlockInfo}
use Rattle.residue_syntax.specs.Code.{FitPlanes}
use Rattle.frame_state.specs.KeptColumns.{AllFit, AllLie, AllSmall, AllStart, limit_of}
use Rattle.frame_state.specs.Past.{past_of}
use Rattle.frame_state.specs.FrameReading.{Column, infos, read_frame}
use Rattle.frame_state.specs.Sources.{FramePast, FrameSources}
use Rattle.frame_state.specs.declared.columns.TileColumn.{TileColumn}
use Rattle.frame_state.specs.declared.sources.FrameSources as code

---- A tile column of the code ----

abbrev pub sources_of : code.FrameSources → FrameSources
sources_of by = record {
  header = by.setting.header;
  modes = by.setting.modes;
  contexts = lists_of by.setting.contexts;
  past = past_of by.past;
}

-- between two blocks
pub record IsReady (setting : FrameSetting) (c : TileColumn) : Type 0 where
  pub rows : c.grid.rows ≡ setting.places.rows
  pub order : c.grid.from ≤ c.grid.to
  pub within : c.grid.to ≤ setting.places.cols
  pub ends : c.grid.to ≡ min (limit_of c) setting.places.cols
  pub fit : FitPlanes (shape_of setting.header) c.sides
  pub fit_blocks : AllFit c.grid.blocks
  pub lie : AllLie c.grid.from (limit_of c) c.grid.blocks
  pub starts : AllStart setting.places.rows setting.places.cols c.grid.blocks
  pub small : AllSmall c.grid.blocks

-- the same columns of the frame
pub record SameColumns (old new : TileColumn) : Type 0 where
  pub from : new.grid.from ≡ old.grid.from
  pub to : new.grid.to ≡ old.grid.to

-- what the code's tile columns hold, as the standard says it
abbrev pub column_of_code : TileColumn → List BlockInfo × List Bool × List Bool × List Bool
column_of_code c = (c.grid.blocks, c.sides.y.above, c.sides.u.above, c.sides.v.above)

abbrev pub column_as_listed : Column → List BlockInfo × List Bool × List Bool × List Bool
column_as_listed c = (infos c.blocks, c.y, c.u, c.v)

---- A tile's bytes ----

-- what a tile settles on, by an arithmetic decoder of its own over its bytes
abbrev pub settled_of : {A : Type 0} → Result (Settled A × Window) Rule → Result (Settled A) Rule
settled_of r = map_ok (λ p. p.0) r

unfoldable pub read_whole : {A : Type 0} → Syntax ℕ Rule (Settled A) → List ℕ → Result (Settled A) Rule
read_whole s bytes = started bytes >>= λ window. settled_of (run_bools s window)

-- the counts of what is read, where counting is on: where a frame's probabilities are adapted after it
abbrev pub counts_if : Bool → List CountedBool → List ℕ
counts_if true bools = counts_after no_counts bools
counts_if false bools = no_counts

---- A frame ----

-- what a frame says before its tiles is that, and the sizes of its tiles break no rule; or it breaks the rule already, whatever
-- else the frames before leave to it
abbrev pub IsBegun : Header → List ℕ → Span → ContextLists → Result FrameSetting Rule → Type 0
IsBegun header bytes compressed before (Ok setting) =
    (setting.header ≡ header) × (forward header before (slice_range bytes compressed.from compressed.to) ≡ Ok (lists_of setting.contexts, setting.modes))
    × IsOk (tile_spans bytes header compressed)
IsBegun header bytes compressed before (Err rule) =
    (past : FramePast) → past.contexts ≡ before → read_frame (record { header = header; compressed = compressed; bytes = bytes; past = past }) ≡ Err rule
