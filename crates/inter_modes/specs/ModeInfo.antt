-- What a block reads (6.4.5, 6.4.11 and 6.4.16 of the standard: mode_info, inter_frame_mode_info, inter_block_mode_info).
use Rattle.std.specs.Prelude.{ℕ, ◌*◌, Bool, List, [], ◌∷◌, Option, Result, Ok, drop, slice_index_or, nat_eq, if◌then◌else◌}
use Rattle.vp9_types.specs.Maps.{Map}
use Rattle.vp9_types.specs.Syntax.{Syntax}
use Rattle.vp9_types.specs.declared.block.InterMode.{InterMode}
use Rattle.vp9_types.specs.declared.block.InterMode.TheVariants.{Zero}
use Rattle.vp9_types.specs.declared.block.InterpFilter.{InterpFilter}
use Rattle.vp9_types.specs.declared.block.InterpFilter.TheVariants.{Regular, Smooth, Sharp}
use Rattle.vp9_types.specs.declared.block.Modes.{Modes}
use Rattle.vp9_types.specs.declared.rule.Rule.{Rule}
use Rattle.vp9_tables.specs.SymbolTrees.{filter_tree}
use Rattle.frame_headers.specs.HeaderState.{shape_of}
use Rattle.frame_headers.specs.declared.header.FrameFilter.{FrameFilter}
use Rattle.frame_headers.specs.declared.header.FrameFilter.TheVariants.{Fixed, Switchable}
use Rattle.frame_headers.specs.declared.header.FrameKind.{FrameKind}
use Rattle.frame_headers.specs.declared.header.FrameKind.TheVariants as frame
use Rattle.frame_headers.specs.declared.header.Header.{Header}
use Rattle.frame_headers.specs.declared.header.InterFields.{InterFields}
use Rattle.prob_contexts.specs.ProbLists.{ContextLists, InterLists}
use Rattle.prob_contexts.specs.declared.kind.ProbKind.TheVariants as kind
use Rattle.block_geometry.specs.FrameShapes.{places_of}
use Rattle.block_geometry.specs.Parts.{part_inside}
use Rattle.block_geometry.specs.BlockSizes.{is_below_8x8}
use Rattle.block_plan.specs.Blocks.{above_of, left_of}
use Rattle.block_plan.specs.declared.block.BlockAt.{BlockAt}
use Rattle.block_plan.specs.declared.block.BlockInfo.{BlockInfo}
use Rattle.block_plan.specs.declared.block.InterPrediction.{InterPrediction}
use Rattle.block_plan.specs.declared.block.Mv.{Mv}
use Rattle.block_plan.specs.declared.block.Prediction.{Prediction}
use Rattle.block_plan.specs.declared.block.Prediction.TheVariants.{Intra, Inter}
use Rattle.block_plan.specs.declared.block.ReferenceFrames.{ReferenceFrames}
use Rattle.counting_reader.specs.Counting.{Settled, settle, ◌>>=◌}
use Rattle.counting_reader.specs.CountedSymbols.{counted_tree}
use Rattle.mode_syntax.specs.Elements.{skips_segment}
use Rattle.mode_syntax.specs.IntraModeInfo.{intra_frame_mode_info}
use Rattle.mv_prediction.specs.Candidates.{mode_context, sign_biases}
use Rattle.mv_prediction.specs.declared.search.SignBiases.{SignBiases}
use Rattle.block_plan.specs.SegmentMaps.{least_id}
use Rattle.inter_contexts.specs.Contexts.{filter_context}
use Rattle.inter_modes.specs.IntraBlocks.{intra_block_mode_info}
use Rattle.inter_contexts.specs.BlockReferences.{ref_frames, allowed_or_rule}
use Rattle.inter_modes.specs.BlockStarts.{segment_reference, block_start}
use Rattle.inter_modes.specs.BlockVectors.{Sources, inter_mode, block_vectors, quarters, ◌>>?◌}
use Rattle.inter_modes.specs.declared.quarters.Quarter.{Quarter}
use Rattle.inter_modes.specs.declared.starts.BlockStart.{BlockStart}

---- Filters ----

abbrev pub filter_of_symbol : ℕ → InterpFilter
filter_of_symbol n = if nat_eq n 0 then Regular else (if nat_eq n 1 then Smooth else Sharp)

-- interp_filter: the frame's, or each block says its own
unfoldable pub interp_filter : FrameFilter → List ℕ → ℕ → Syntax ℕ Rule (Settled InterpFilter)
interp_filter (Fixed filter) probs context = settle filter
interp_filter Switchable probs context = do
  number ← counted_tree kind.Filter (2 * context) filter_tree (drop (2 * context) probs)
  settle (filter_of_symbol number)

---- Inter blocks ----

abbrev pub whole_prediction : ReferenceFrames → InterpFilter → InterMode → List Mv → InterPrediction
whole_prediction refs filter mode vectors = record {
  modes = mode ∷ mode ∷ mode ∷ mode ∷ [];
  references = refs;
  filter = filter;
  vectors = vectors ∷ vectors ∷ vectors ∷ vectors ∷ [];
}

abbrev pub no_quarter : Quarter
no_quarter = record { mode = Zero; vectors = [] }

abbrev pub of_each : {A : Type 0} → (Quarter → A) → List Quarter → List A
of_each f qs =
    f (slice_index_or qs 0 no_quarter) ∷ f (slice_index_or qs 1 no_quarter) ∷ f (slice_index_or qs 2 no_quarter) ∷ f (slice_index_or qs 3 no_quarter) ∷ []

-- of four quarters, each with its own
abbrev pub quarters_prediction : ReferenceFrames → InterpFilter → List Quarter → InterPrediction
quarters_prediction refs filter qs = record {
  modes = of_each (λ q. q.mode) qs;
  references = refs;
  filter = filter;
  vectors = of_each (λ q. q.vectors) qs;
}

abbrev pub Predicts : Type 0
Predicts = Syntax ℕ Rule (Settled (Result InterPrediction Rule))

-- the mode of a block of 8x8 or more is zero in a segment that skips
unfoldable pub block_mode : Bool → List ℕ → ℕ → Syntax ℕ Rule (Settled InterMode)
block_mode skips probs context = if skips then settle Zero else inter_mode probs context

unfoldable pub whole_block : Sources → InterLists → Bool → FrameFilter → ℕ → ReferenceFrames → Predicts
whole_block s lists skips filter context refs = do
  mode ← block_mode skips lists.modes (mode_context s.earlier s.search)
  filter ← interp_filter filter lists.filters context
  block_vectors s mode refs >>? λ vectors. settle (Ok (whole_prediction refs filter mode vectors))

-- each quarter of a smaller one says its own, whatever the segment
unfoldable pub block_of_quarters : Sources → InterLists → FrameFilter → ℕ → ReferenceFrames → Predicts
block_of_quarters s lists filter context refs = do
  filter ← interp_filter filter lists.filters context
  quarters s lists.modes (mode_context s.earlier s.search) refs s.search.at.size >>? λ qs. settle (Ok (quarters_prediction refs filter qs))

unfoldable pub inter_prediction : Sources → InterLists → Bool → FrameFilter → ℕ → ReferenceFrames → Predicts
inter_prediction s lists skips filter context refs =
    if is_below_8x8 s.search.at.size then block_of_quarters s lists filter context refs else whole_block s lists skips filter context refs

---- Blocks ----

abbrev pub block_with : BlockAt → BlockStart → Prediction → BlockInfo
block_with at start prediction = record {
  row = at.row;
  col = at.col;
  size = at.size;
  skip = start.skip;
  segment = start.segment.id;
  segment_predicted = start.segment.predicted;
  tx = start.tx;
  prediction = prediction;
}

abbrev pub Block : Type 0
Block = Syntax ℕ Rule (Settled (Result BlockInfo Rule))

-- what is asked of the frame: its header, its fields as an inter frame, the modes and contexts of its compressed header
pub record InterFrame : Type 0 where
  pub header : Header
  pub fields : InterFields
  pub modes : Modes
  pub contexts : ContextLists

abbrev pub sources_of : InterFrame → List BlockInfo → List BlockInfo → BlockAt → Sources
sources_of f earlier before at = record {
  lists = f.contexts.vectors;
  allowed = f.fields.high_precision;
  earlier = earlier;
  before = before;
  search = record { places = places_of (shape_of f.header); biases = sign_biases f.fields.references; at = at };
}

-- the references, or the rule
unfoldable pub checked_references : InterFrame → SignBiases → Option BlockInfo → Option BlockInfo → ℕ → Syntax ℕ Rule (Settled (Result ReferenceFrames Rule))
checked_references f biases above left segment = do
  refs ← ref_frames (segment_reference f.header.params.segmentation segment) f.modes.reference_mode f.contexts.inter biases above left
  settle (allowed_or_rule f.header.size f.fields.references refs)

-- an inter block's references must be in range; then its modes and vectors are read
unfoldable pub inter_block : InterFrame → Sources → Option BlockInfo → Option BlockInfo → BlockStart → Block
inter_block f s above left start =
    checked_references f s.search.biases above left start.segment.id
    >>? λ refs. inter_prediction s f.contexts.inter (skips_segment f.header.params.segmentation start.segment.id) f.fields.filter (filter_context above left) refs
    >>? λ p. settle (Ok (block_with s.search.at start (Inter p)))

unfoldable pub intra_coded_block : InterFrame → BlockAt → BlockStart → Block
intra_coded_block f at start = do
  p ← intra_block_mode_info f.contexts.inter.y_modes f.contexts.uv_modes at.size
  settle (Ok (block_with at start (Intra p)))

-- by the blocks above and at the left
unfoldable pub inter_frame_block : InterFrame → Sources → Option BlockInfo → Option BlockInfo → ℕ → Block
inter_frame_block f s above left least = do
  start ← block_start f.header.params.segmentation f.modes.tx_mode f.contexts above left s.search.at.size least
  if start.is_inter then inter_block f s above left start else intra_coded_block f s.search.at start

-- the least id of the map before the frame over the block
abbrev pub least_before : Header → Map → BlockAt → ℕ
least_before header ids at = least_id ids (part_inside (places_of (shape_of header)) at.row at.col at.size)

-- by all blocks of the frame before it, the map of segments before the frame, and the blocks of the frame before, which are
-- none where its vectors aren't used
unfoldable pub inter_frame_mode_info : InterFrame → Map → List BlockInfo → List BlockInfo → BlockAt → Block
inter_frame_mode_info f ids earlier before at =
    inter_frame_block f (sources_of f earlier before at) (above_of earlier at) (left_of earlier at) (least_before f.header ids at)

unfoldable pub intra_frame_block : Header → Modes → ContextLists → List BlockInfo → BlockAt → Block
intra_frame_block header modes contexts earlier at = do
  block ← intra_frame_mode_info header modes contexts earlier at
  settle (Ok block)

-- What the blocks of any frame are read by: its header, the modes and contexts of its compressed header, the map of segments
-- before it, and the blocks of the frame before, of which there are none where its vectors aren't used.
pub record BlockSources : Type 0 where
  pub header : Header
  pub modes : Modes
  pub contexts : ContextLists
  pub segments : Map
  pub vectors : List BlockInfo

abbrev pub inter_frame : BlockSources → InterFields → InterFrame
inter_frame by fields = record { header = by.header; fields = fields; modes = by.modes; contexts = by.contexts }

abbrev pub by_kind : FrameKind → BlockSources → List BlockInfo → BlockAt → Block
by_kind (frame.Inter fields) by earlier at = inter_frame_mode_info (inter_frame by fields) by.segments earlier by.vectors at
by_kind _ by earlier at = intra_frame_block by.header by.modes by.contexts earlier at

-- mode_info, behind the blocks before it: the block, or the rule that it breaks, behind what it read
unfoldable pub mode_info : BlockSources → List BlockInfo → BlockAt → Block
mode_info by earlier at = by_kind by.header.kind by earlier at
