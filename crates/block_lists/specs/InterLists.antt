-- What a block of an inter frame is put as (6.4.11, 6.4.15 to 6.4.18 of the standard), as it is coded.
use Rattle.std.specs.Prelude.{ℕ, ◌*◌, Bool, true, false, List, [], ◌++◌, Option, Some, None, drop, slice_index, slice_index_or, if◌then◌else◌}
use Rattle.std.specs.List.{flat_map}
use Rattle.vp9_types.specs.declared.block.BlockSize.{BlockSize}
use Rattle.vp9_types.specs.declared.block.InterMode.{InterMode}
use Rattle.vp9_types.specs.declared.block.InterMode.TheVariants.{Nearest, Near, Zero, New}
use Rattle.vp9_types.specs.declared.block.InterpFilter.{InterpFilter}
use Rattle.vp9_types.specs.declared.block.IntraMode.{IntraMode}
use Rattle.vp9_types.specs.declared.block.ReferenceFrame.{ReferenceFrame}
use Rattle.vp9_tables.specs.Numbers.{block_number, filter_number, inter_number, intra_number}
use Rattle.vp9_tables.specs.SymbolTrees.{filter_tree, inter_mode_tree, intra_mode_tree}
use Rattle.vp9_tables.specs.declared.data.blocks.TheConstants.{SIZE_GROUP}
use Rattle.bool_lists.specs.BoolLists.{BoolList, tree_bools}
use Rattle.frame_headers.specs.declared.header.FrameFilter.{FrameFilter}
use Rattle.frame_headers.specs.declared.header.FrameFilter.TheVariants.{Fixed, Switchable}
use Rattle.frame_headers.specs.declared.header.FrameKind.{FrameKind}
use Rattle.frame_headers.specs.declared.header.FrameKind.TheVariants as frame
use Rattle.prob_contexts.specs.ProbLists.{InterLists}
use Rattle.block_geometry.specs.BlockSizes.{is_below_8x8}
use Rattle.block_geometry.specs.Quarters.{starting_quarters}
use Rattle.block_plan.specs.Blocks.{above_of, left_of, is_inter}
use Rattle.block_plan.specs.BlockMvs.{vector_at}
use Rattle.block_plan.specs.declared.block.BlockAt.{BlockAt}
use Rattle.block_plan.specs.declared.block.BlockInfo.{BlockInfo}
use Rattle.block_plan.specs.declared.block.InterPrediction.{InterPrediction}
use Rattle.block_plan.specs.declared.block.IntraPrediction.{IntraPrediction}
use Rattle.block_plan.specs.declared.block.Mv.{Mv}
use Rattle.block_plan.specs.declared.block.Prediction.{Prediction}
use Rattle.block_plan.specs.declared.block.Prediction.TheVariants.{Intra, Inter}
use Rattle.block_plan.specs.declared.block.ReferenceFrames.{ReferenceFrames}
use Rattle.mode_syntax.specs.Elements.{skips_segment}
use Rattle.mode_syntax.specs.IntraModes.{last_mode}
use Rattle.mv_prediction.specs.Candidates.{mode_context}
use Rattle.inter_contexts.specs.Contexts.{filter_context}
use Rattle.inter_modes.specs.ModeInfo.{BlockSources, inter_frame, InterFrame, sources_of}
use Rattle.inter_modes.specs.BlockStarts.{segment_reference}
use Rattle.inter_modes.specs.BlockVectors.{Sources, best_mv, near_of_block, row_vectors}
use Rattle.inter_modes.specs.declared.starts.BlockStart.{BlockStart}
use Rattle.block_lists.specs.IntraLists.{mode_of, spelled_intra_frame}
use Rattle.block_lists.specs.ReferenceLists.{spelled_references}
use Rattle.block_lists.specs.StartLists.{spelled_start}
use Rattle.block_lists.specs.VectorLists.{spelled_new}

---- Intra blocks ----

-- by a group of the block's size
unfoldable pub spelled_mode : List ℕ → ℕ → IntraMode → BoolList
spelled_mode probs group mode = tree_bools intra_mode_tree (drop (9 * group) probs) (intra_number mode)

-- those of some quarters
abbrev pub spelled_modes : List ℕ → ℕ → List IntraMode → List ℕ → BoolList
spelled_modes probs group luma quarters = flat_map (λ k. spelled_mode probs group (mode_of luma k)) quarters

-- those of the quarters at which the parts of a block begin
unfoldable pub spelled_luma : List ℕ → BlockSize → List IntraMode → BoolList
spelled_luma probs size luma = spelled_modes probs (slice_index SIZE_GROUP (block_number size)) luma (starting_quarters size)

unfoldable pub spelled_intra : List ℕ → List ℕ → BlockSize → IntraPrediction → BoolList
spelled_intra y_modes uv_modes size p = spelled_luma y_modes size p.luma ++ spelled_mode uv_modes (intra_number (last_mode p.luma)) p.chroma

---- Inter blocks ----

unfoldable pub spelled_inter_mode : List ℕ → ℕ → InterMode → BoolList
spelled_inter_mode probs context mode = tree_bools inter_mode_tree (drop (3 * context) probs) (inter_number mode)

-- the frame's, or each block says its own
unfoldable pub spelled_filter : FrameFilter → List ℕ → ℕ → InterpFilter → BoolList
spelled_filter (Fixed f) probs context filter = []
spelled_filter Switchable probs context filter = tree_bools filter_tree (drop (2 * context) probs) (filter_number filter)

-- a new vector alone says something
unfoldable pub spelled_vector : Sources → InterMode → Mv → Mv → BoolList
spelled_vector s Nearest best v = []
spelled_vector s Near best v = []
spelled_vector s Zero best v = []
spelled_vector s New best v = spelled_new s.lists s.allowed best v

abbrev pub spelled_second : Option ReferenceFrame → (ReferenceFrame → BoolList) → BoolList
spelled_second None vector = []
spelled_second (Some reference) vector = vector reference

-- a block's vectors of its references
unfoldable pub spelled_vectors : Sources → InterMode → ReferenceFrames → List Mv → BoolList
spelled_vectors s mode refs vectors =
    spelled_vector s mode (near_of_block s refs.first).nearest (vector_at vectors 0)
    ++ spelled_second refs.second (λ reference. spelled_vector s mode (near_of_block s reference).nearest (vector_at vectors 1))

-- a quarter's mode and vectors, by the best vectors of its block
unfoldable pub spelled_quarter : Sources → List ℕ → ℕ → ReferenceFrames → List Mv → InterMode → List Mv → BoolList
spelled_quarter s probs context refs best mode vectors =
    spelled_inter_mode probs context mode ++ spelled_vector s mode (vector_at best 0) (vector_at vectors 0)
    ++ spelled_second refs.second (λ reference. spelled_vector s mode (vector_at best 1) (vector_at vectors 1))

-- the k-th quarter of a prediction
abbrev pub inter_mode_of : InterPrediction → ℕ → InterMode
inter_mode_of p k = slice_index_or p.modes k Zero

unfoldable pub spelled_quarter_of : Sources → List ℕ → ℕ → InterPrediction → ℕ → BoolList
spelled_quarter_of s probs context p k = spelled_quarter s probs context p.references (best_mv s p.references) (inter_mode_of p k) (row_vectors p.vectors k)

-- those at which the parts of a block below 8x8 begin
unfoldable pub spelled_quarters : Sources → List ℕ → ℕ → BlockSize → InterPrediction → BoolList
spelled_quarters s probs context size p = flat_map (spelled_quarter_of s probs context p) (starting_quarters size)

-- the mode of a block of 8x8 or more isn't said in a segment that skips
unfoldable pub spelled_block_mode : Bool → List ℕ → ℕ → InterMode → BoolList
spelled_block_mode skips probs context mode = if skips then [] else spelled_inter_mode probs context mode

unfoldable pub spelled_whole : Sources → InterLists → Bool → FrameFilter → ℕ → InterPrediction → BoolList
spelled_whole s lists skips filter context p =
    spelled_block_mode skips lists.modes (mode_context s.earlier s.search) (inter_mode_of p 0) ++ spelled_filter filter lists.filters context p.filter
    ++ spelled_vectors s (inter_mode_of p 0) p.references (row_vectors p.vectors 0)

unfoldable pub spelled_of_quarters : Sources → InterLists → FrameFilter → ℕ → InterPrediction → BoolList
spelled_of_quarters s lists filter context p =
    spelled_filter filter lists.filters context p.filter ++ spelled_quarters s lists.modes (mode_context s.earlier s.search) s.search.at.size p

unfoldable pub spelled_prediction : Sources → InterLists → Bool → FrameFilter → ℕ → InterPrediction → BoolList
spelled_prediction s lists skips filter context p =
    if is_below_8x8 s.search.at.size then spelled_of_quarters s lists filter context p else spelled_whole s lists skips filter context p

---- Blocks ----

abbrev pub start_of : BlockInfo → BlockStart
start_of block = record {
  segment = record { id = block.segment; predicted = block.segment_predicted };
  skip = block.skip;
  is_inter = is_inter block.prediction;
  tx = block.tx;
}

unfoldable pub spelled_by_prediction : InterFrame → Sources → Option BlockInfo → Option BlockInfo → ℕ → Prediction → BoolList
spelled_by_prediction f s above left segment (Intra p) = spelled_intra f.contexts.inter.y_modes f.contexts.uv_modes s.search.at.size p
spelled_by_prediction f s above left segment (Inter p) =
    spelled_references (segment_reference f.header.params.segmentation segment) f.modes.reference_mode f.contexts.inter s.search.biases above left p.references
    ++ spelled_prediction s f.contexts.inter (skips_segment f.header.params.segmentation segment) f.fields.filter (filter_context above left) p

-- by the blocks above and at the left
unfoldable pub spelled_inter_beside : InterFrame → Sources → Option BlockInfo → Option BlockInfo → BlockInfo → BoolList
spelled_inter_beside f s above left block =
    spelled_start f.header.params.segmentation f.modes.tx_mode f.contexts above left s.search.at.size (start_of block)
    ++ spelled_by_prediction f s above left block.segment block.prediction

abbrev pub spelled_by_kind : FrameKind → BlockSources → List BlockInfo → BlockAt → BlockInfo → BoolList
spelled_by_kind (frame.Inter fields) by earlier at block =
    let f = inter_frame by fields in
    spelled_inter_beside f (sources_of f earlier by.vectors at) (above_of earlier at) (left_of earlier at) block
spelled_by_kind _ by earlier at block = spelled_intra_frame by.header by.modes by.contexts earlier at block

-- a block of any frame, behind the blocks before it
unfoldable pub spelled_mode_info : BlockSources → List BlockInfo → BlockAt → BlockInfo → BoolList
spelled_mode_info by earlier at block = spelled_by_kind by.header.kind by earlier at block
