-- What a block of an intra frame is put as (6.4.6 to 6.4.10 of the standard), as it is coded.
use Rattle.std.specs.Prelude.{ℕ, ◌+◌, ◌*◌, Bool, true, false, not, ◌&&◌, List, [], ◌++◌, Option, Some, None, drop, get_or, slice_index, slice_index_or, if◌then◌else◌}
use Rattle.std.specs.List.{flat_map}
use Rattle.vp9_types.specs.declared.block.BlockSize.{BlockSize}
use Rattle.vp9_types.specs.declared.block.IntraMode.{IntraMode}
use Rattle.vp9_types.specs.declared.block.IntraMode.TheVariants.{Dc}
use Rattle.vp9_types.specs.declared.block.Modes.{Modes}
use Rattle.vp9_types.specs.declared.block.TxMode.{TxMode}
use Rattle.vp9_types.specs.declared.block.TxSize.{TxSize}
use Rattle.vp9_tables.specs.BlockTables.{greatest_of}
use Rattle.vp9_tables.specs.Numbers.{intra_number, tx_number, tx_of}
use Rattle.vp9_tables.specs.SymbolTrees.{intra_mode_tree, segment_tree}
use Rattle.vp9_tables.specs.declared.data.intra.TheConstants.{KF_Y_MODE, KF_UV_MODE}
use Rattle.bool_lists.specs.BoolLists.{BoolList, one_bool, tree_bools}
use Rattle.frame_headers.specs.declared.header.Header.{Header}
use Rattle.frame_headers.specs.declared.segments.MapUpdate.{MapUpdate}
use Rattle.frame_headers.specs.declared.segments.Segmentation.{Segmentation}
use Rattle.prob_contexts.specs.ProbLists.{ContextLists, TxLists}
use Rattle.block_geometry.specs.BlockSizes.{is_below_8x8}
use Rattle.block_geometry.specs.Quarters.{starting_quarters}
use Rattle.block_plan.specs.Blocks.{above_of, left_of}
use Rattle.block_plan.specs.declared.block.BlockAt.{BlockAt}
use Rattle.block_plan.specs.declared.block.BlockInfo.{BlockInfo}
use Rattle.block_plan.specs.declared.block.Prediction.{Prediction}
use Rattle.block_plan.specs.declared.block.Prediction.TheVariants.{Intra, Inter}
use Rattle.mode_syntax.specs.Elements.{is_selected, skip_context, skips_segment, tx_context, tx_probs, tx_tree}
use Rattle.mode_syntax.specs.IntraModes.{edge_modes, mode_above, mode_at_left}
use Rattle.mode_syntax.specs.declared.intra_modes.EdgeModes.{EdgeModes}

---- Segment, skip, transform size ----

-- where the frame has segments and codes their map
unfoldable pub spelled_segment : Bool → Option MapUpdate → ℕ → BoolList
spelled_segment true (Some update) segment = tree_bools segment_tree update.tree segment
spelled_segment true None segment = []
spelled_segment false map segment = []

-- the blocks of a segment that skips say nothing
unfoldable pub spelled_skip : Segmentation → List ℕ → ℕ → ℕ → Bool → BoolList
spelled_skip segmentation probs context segment skip = if skips_segment segmentation segment then [] else one_bool (slice_index probs context) skip

unfoldable pub spelled_tx_symbol : TxLists → TxSize → ℕ → TxSize → BoolList
spelled_tx_symbol lists greatest context tx = tree_bools (tx_tree greatest) (drop (tx_number greatest * context) (tx_probs lists greatest)) (tx_number tx)

-- where the frame leaves it to its blocks, and the block is 8x8 or more
unfoldable pub spelled_tx : TxMode → TxLists → ℕ → BlockSize → TxSize → BoolList
spelled_tx mode lists context size tx =
    if is_selected mode && not (is_below_8x8 size) then spelled_tx_symbol lists (tx_of (greatest_of size)) context tx else []

---- Modes ----

unfoldable pub spelled_intra_mode : List ℕ → IntraMode → BoolList
spelled_intra_mode probs mode = tree_bools intra_mode_tree probs (intra_number mode)

-- by the modes above and at the left
unfoldable pub spelled_default : IntraMode → IntraMode → IntraMode → BoolList
spelled_default above left mode = spelled_intra_mode (get_or KF_Y_MODE (10 * intra_number above + intra_number left) []) mode

-- by the last mode of luma
unfoldable pub spelled_uv : IntraMode → IntraMode → BoolList
spelled_uv luma mode = spelled_intra_mode (get_or KF_UV_MODE (intra_number luma) []) mode

-- the mode of a quarter
abbrev pub mode_of : List IntraMode → ℕ → IntraMode
mode_of luma quarter = slice_index_or luma quarter Dc

-- that of the k-th quarter, by the modes above and at its left
abbrev pub spelled_default_of : EdgeModes → List IntraMode → ℕ → BoolList
spelled_default_of edge luma k = spelled_default (mode_above edge luma k) (mode_at_left edge luma k) (mode_of luma k)

-- those of the quarters at which the parts of a block begin
unfoldable pub spelled_default_luma : BlockSize → EdgeModes → List IntraMode → BoolList
spelled_default_luma size edge luma = flat_map (spelled_default_of edge luma) (starting_quarters size)

-- the modes of a block that is predicted from its own frame
abbrev pub luma_of : Prediction → List IntraMode
luma_of (Intra p) = p.luma
luma_of (Inter p) = []

abbrev pub chroma_of : Prediction → IntraMode
chroma_of (Intra p) = p.chroma
chroma_of (Inter p) = Dc

---- A block ----

-- by the blocks above and at the left
unfoldable pub spelled_beside : Segmentation → TxMode → ContextLists → Option BlockInfo → Option BlockInfo → BlockAt → BlockInfo → BoolList
spelled_beside segmentation tx_mode contexts above left at block =
    spelled_segment segmentation.enabled segmentation.map block.segment
    ++ spelled_skip segmentation contexts.skip (skip_context above left) block.segment block.skip
    ++ spelled_tx tx_mode contexts.tx (tx_context at.size above left) at.size block.tx
    ++ spelled_default_luma at.size (edge_modes above left) (luma_of block.prediction)
    ++ spelled_uv (mode_of (luma_of block.prediction) 3) (chroma_of block.prediction)

-- by the blocks of the frame before it
unfoldable pub spelled_intra_frame : Header → Modes → ContextLists → List BlockInfo → BlockAt → BlockInfo → BoolList
spelled_intra_frame header modes contexts earlier at block =
    spelled_beside header.params.segmentation modes.tx_mode contexts (above_of earlier at) (left_of earlier at) at block
