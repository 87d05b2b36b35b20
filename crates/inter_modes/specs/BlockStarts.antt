-- What a block of an inter frame says first: its segment, whether it is skipped, whether it is inter, its transform size
-- (6.4.11 to 6.4.14 of the standard: inter_frame_mode_info, inter_segment_id, read_is_inter, get_segment_id).
use Rattle.std.specs.Prelude.{ℕ, Bool, true, false, ◌&&◌, not, List, Option, Some, None, slice_index, slice_index_or, if◌then◌else◌}
use Rattle.vp9_types.specs.Syntax.{Syntax}
use Rattle.vp9_types.specs.Trees.{tree_symbol}
use Rattle.vp9_types.specs.declared.block.BlockSize.{BlockSize}
use Rattle.vp9_types.specs.declared.block.TxMode.{TxMode}
use Rattle.vp9_types.specs.declared.block.TxSize.{TxSize}
use Rattle.vp9_types.specs.declared.rule.Rule.{Rule}
use Rattle.vp9_tables.specs.Numbers.{tx_of}
use Rattle.vp9_tables.specs.SymbolTrees.{segment_tree}
use Rattle.bool_decoder.specs.Bools.{flag}
use Rattle.frame_headers.specs.Segments.{no_segment_features}
use Rattle.frame_headers.specs.declared.segments.FeatureReference.{FeatureReference}
use Rattle.frame_headers.specs.declared.segments.FeatureReference.TheVariants as feature
use Rattle.frame_headers.specs.declared.segments.MapUpdate.{MapUpdate}
use Rattle.frame_headers.specs.declared.segments.Segmentation.{Segmentation}
use Rattle.prob_contexts.specs.ProbLists.{ContextLists, TxLists}
use Rattle.prob_contexts.specs.declared.kind.ProbKind.TheVariants as kind
use Rattle.block_geometry.specs.BlockSizes.{greatest_allowed}
use Rattle.block_plan.specs.declared.block.BlockInfo.{BlockInfo}
use Rattle.counting_reader.specs.Counting.{Settled, settle, uncounted, ◌>>=◌}
use Rattle.counting_reader.specs.CountedSymbols.{counted_flag}
use Rattle.mode_syntax.specs.Elements.{skip_context, read_skip, tx_context, read_tx_size}
use Rattle.inter_contexts.specs.Contexts.{is_inter_context, predicted_context}
use Rattle.inter_modes.specs.declared.starts.SegmentOf.{SegmentOf}
use Rattle.inter_modes.specs.declared.starts.BlockStart.{BlockStart}

---- Segments ----

abbrev pub segment_of : Bool → ℕ → SegmentOf
segment_of predicted id = record { id = id; predicted = predicted }

unfoldable pub segment_by_tree : List ℕ → Syntax ℕ Rule (Settled SegmentOf)
segment_by_tree tree = do
  id ← uncounted (tree_symbol segment_tree tree)
  settle (segment_of false id)

-- in a frame that may predict ids from the map before it, a flag says whether the block's is predicted
unfoldable pub temporal_segment : MapUpdate → ℕ → ℕ → Syntax ℕ Rule (Settled SegmentOf)
temporal_segment update context least = do
  predicted ← uncounted (flag (slice_index update.prediction context))
  if predicted then settle (segment_of true least) else segment_by_tree update.tree

unfoldable pub updated_segment : MapUpdate → ℕ → ℕ → Syntax ℕ Rule (Settled SegmentOf)
updated_segment update context least = if update.temporal then temporal_segment update context least else segment_by_tree update.tree

-- where the frame doesn't update the map, it is the least id that the map before it has over the block
unfoldable pub segment_by : Option MapUpdate → ℕ → ℕ → Syntax ℕ Rule (Settled SegmentOf)
segment_by None context least = settle (segment_of false least)
segment_by (Some update) context least = updated_segment update context least

unfoldable pub inter_segment_id : Segmentation → ℕ → ℕ → Syntax ℕ Rule (Settled SegmentOf)
inter_segment_id segmentation context least =
    if segmentation.enabled then segment_by segmentation.map context least else settle (segment_of false 0)

---- Is it inter ----

-- seg_feature_active: the reference that the blocks of a segment take
abbrev pub reference_if : Bool → Option FeatureReference → Option FeatureReference
reference_if true reference = reference
reference_if false reference = None

abbrev pub segment_reference : Segmentation → ℕ → Option FeatureReference
segment_reference segmentation segment =
    reference_if segmentation.enabled (slice_index_or segmentation.features.segments segment no_segment_features).reference

abbrev pub is_inter_feature : FeatureReference → Bool
is_inter_feature feature.Intra = false
is_inter_feature _ = true

unfoldable pub is_inter_by : Option FeatureReference → List ℕ → ℕ → Syntax ℕ Rule (Settled Bool)
is_inter_by (Some reference) probs context = settle (is_inter_feature reference)
is_inter_by None probs context = counted_flag kind.IsInter context (slice_index probs context)

unfoldable pub read_is_inter : Segmentation → List ℕ → ℕ → ℕ → Syntax ℕ Rule (Settled Bool)
read_is_inter segmentation probs context segment = is_inter_by (segment_reference segmentation segment) probs context

---- The transform size ----

-- it isn't read where the block is inter and skipped
unfoldable pub tx_size : TxMode → TxLists → ℕ → BlockSize → Bool → Syntax ℕ Rule (Settled TxSize)
tx_size mode lists context size coded = if coded then read_tx_size mode lists context size else settle (tx_of (greatest_allowed mode size))

---- All of it ----

-- by the blocks above and at the left, and the least id that the map before the frame has over the block
unfoldable pub block_start : Segmentation → TxMode → ContextLists → Option BlockInfo → Option BlockInfo → BlockSize → ℕ → Syntax ℕ Rule (Settled BlockStart)
block_start segmentation mode contexts above left size least = do
  segment ← inter_segment_id segmentation (predicted_context above left) least
  skip ← read_skip segmentation contexts.skip (skip_context above left) segment.id
  is_inter ← read_is_inter segmentation contexts.inter.is_inter (is_inter_context above left) segment.id
  tx ← tx_size mode contexts.tx (tx_context size above left) size (not (is_inter && skip))
  settle (record { segment = segment; skip = skip; is_inter = is_inter; tx = tx })
