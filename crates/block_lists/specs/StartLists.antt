-- What a block of an inter frame is put as before its prediction (6.4.11 to 6.4.14 of the standard).
use Rattle.std.specs.Prelude.{ℕ, Bool, true, false, not, ◌&&◌, List, [], ◌++◌, Option, Some, None, slice_index, if◌then◌else◌}
use Rattle.vp9_types.specs.declared.block.BlockSize.{BlockSize}
use Rattle.vp9_types.specs.declared.block.TxMode.{TxMode}
use Rattle.vp9_types.specs.declared.block.TxSize.{TxSize}
use Rattle.vp9_tables.specs.SymbolTrees.{segment_tree}
use Rattle.bool_lists.specs.BoolLists.{BoolList, one_bool, tree_bools}
use Rattle.frame_headers.specs.declared.segments.FeatureReference.{FeatureReference}
use Rattle.frame_headers.specs.declared.segments.MapUpdate.{MapUpdate}
use Rattle.frame_headers.specs.declared.segments.Segmentation.{Segmentation}
use Rattle.prob_contexts.specs.ProbLists.{ContextLists, TxLists}
use Rattle.block_plan.specs.declared.block.BlockInfo.{BlockInfo}
use Rattle.mode_syntax.specs.Elements.{skip_context, tx_context}
use Rattle.inter_contexts.specs.Contexts.{is_inter_context, predicted_context}
use Rattle.inter_modes.specs.BlockStarts.{segment_reference}
use Rattle.inter_modes.specs.declared.starts.BlockStart.{BlockStart}
use Rattle.inter_modes.specs.declared.starts.SegmentOf.{SegmentOf}
use Rattle.block_lists.specs.IntraLists.{spelled_skip, spelled_tx}

-- in a frame that may predict ids, a flag says whether it is predicted
unfoldable pub spelled_temporal : MapUpdate → ℕ → SegmentOf → BoolList
spelled_temporal update context segment =
    if segment.predicted then one_bool (slice_index update.prediction context) true
    else (one_bool (slice_index update.prediction context) false ++ tree_bools segment_tree update.tree segment.id)

unfoldable pub spelled_updated : MapUpdate → ℕ → SegmentOf → BoolList
spelled_updated update context segment = if update.temporal then spelled_temporal update context segment else tree_bools segment_tree update.tree segment.id

unfoldable pub spelled_segment_by : Option MapUpdate → ℕ → SegmentOf → BoolList
spelled_segment_by None context segment = []
spelled_segment_by (Some update) context segment = spelled_updated update context segment

unfoldable pub spelled_inter_segment : Segmentation → ℕ → SegmentOf → BoolList
spelled_inter_segment segmentation context segment = if segmentation.enabled then spelled_segment_by segmentation.map context segment else []

-- where the segment takes no reference
unfoldable pub spelled_is_inter : Option FeatureReference → List ℕ → ℕ → Bool → BoolList
spelled_is_inter (Some reference) probs context is_inter = []
spelled_is_inter None probs context is_inter = one_bool (slice_index probs context) is_inter

unfoldable pub spelled_tx_if : TxMode → TxLists → ℕ → BlockSize → Bool → TxSize → BoolList
spelled_tx_if mode lists context size coded tx = if coded then spelled_tx mode lists context size tx else []

-- by the blocks above and at the left
unfoldable pub spelled_start : Segmentation → TxMode → ContextLists → Option BlockInfo → Option BlockInfo → BlockSize → BlockStart → BoolList
spelled_start segmentation mode contexts above left size start =
    spelled_inter_segment segmentation (predicted_context above left) start.segment
    ++ spelled_skip segmentation contexts.skip (skip_context above left) start.segment.id start.skip
    ++ spelled_is_inter (segment_reference segmentation start.segment.id) contexts.inter.is_inter (is_inter_context above left) start.is_inter
    ++ spelled_tx_if mode contexts.tx (tx_context size above left) size (not (start.is_inter && start.skip)) start.tx
