-- What a block of an intra frame says before its modes (6.4.7, 6.4.8 and 6.4.10 of the standard: intra_segment_id,
-- read_skip, read_tx_size; their contexts in 9.3).
use Rattle.std.specs.Prelude.{ℕ, ◌+◌, ◌*◌, Bool, true, false, ◌&&◌, not, List, Option, Some, None, drop, slice_index, slice_index_or, nat_lt, if◌then◌else◌}
use Rattle.vp9_types.specs.Syntax.{Syntax, done}
use Rattle.vp9_types.specs.Trees.{Tree, tree_symbol}
use Rattle.vp9_types.specs.declared.block.BlockSize.{BlockSize}
use Rattle.vp9_types.specs.declared.block.TxMode.{TxMode}
use Rattle.vp9_types.specs.declared.block.TxMode.TheVariants.{Selected}
use Rattle.vp9_types.specs.declared.block.TxSize.{TxSize}
use Rattle.vp9_types.specs.declared.block.TxSize.TheVariants.{T4x4, T8x8, T16x16, T32x32}
use Rattle.vp9_types.specs.declared.rule.Rule.{Rule}
use Rattle.vp9_tables.specs.Numbers.{flag_number, tx_number, tx_of}
use Rattle.vp9_tables.specs.BlockTables.{greatest_of}
use Rattle.vp9_tables.specs.SymbolTrees.{segment_tree, tx8_tree, tx16_tree, tx32_tree}
use Rattle.frame_headers.specs.Segments.{no_segment_features}
use Rattle.frame_headers.specs.declared.segments.MapUpdate.{MapUpdate}
use Rattle.frame_headers.specs.declared.segments.Segmentation.{Segmentation}
use Rattle.prob_contexts.specs.declared.kind.ProbKind.{ProbKind}
use Rattle.prob_contexts.specs.declared.kind.ProbKind.TheVariants as kind
use Rattle.prob_contexts.specs.ProbLists.{TxLists}
use Rattle.block_geometry.specs.BlockSizes.{is_below_8x8, greatest_allowed}
use Rattle.block_plan.specs.declared.block.BlockInfo.{BlockInfo}
use Rattle.counting_reader.specs.Counting.{Settled, settle, ◌>>=◌}
use Rattle.counting_reader.specs.CountedSymbols.{counted_flag, counted_tree}

-- Segments are coded in frames that have them and update their map; else a block's is 0.
unfoldable pub coded_segment : Bool → Option MapUpdate → Syntax ℕ Rule ℕ
coded_segment true (Some update) = tree_symbol segment_tree update.tree
coded_segment true None = done 0
coded_segment false map = done 0

unfoldable pub intra_segment_id : Segmentation → Syntax ℕ Rule ℕ
intra_segment_id segmentation = coded_segment segmentation.enabled segmentation.map

-- seg_feature_active: a feature is on only in frames that have segments
abbrev pub skips_segment : Segmentation → ℕ → Bool
skips_segment segmentation segment =
    segmentation.enabled && (slice_index_or segmentation.features.segments segment no_segment_features).skip

abbrev pub skip_beside : Option BlockInfo → ℕ
skip_beside None = 0
skip_beside (Some block) = flag_number block.skip

abbrev pub skip_context : Option BlockInfo → Option BlockInfo → ℕ
skip_context above left = skip_beside above + skip_beside left

-- one bool, which is counted; the blocks of a segment that skips say nothing
unfoldable pub read_skip : Segmentation → List ℕ → ℕ → ℕ → Syntax ℕ Rule (Settled Bool)
read_skip segmentation probs context segment =
    if skips_segment segmentation segment then settle true else counted_flag kind.Skip context (slice_index probs context)

-- what a neighbour counts for: its transform, or the block's greatest where it is skipped
abbrev pub tx_beside : ℕ → BlockInfo → ℕ
tx_beside greatest block = if block.skip then greatest else tx_number block.tx

-- a neighbour that isn't there takes the other's number, and the block's greatest stands for both if neither is
abbrev pub tx_sum : ℕ → Option BlockInfo → Option BlockInfo → ℕ
tx_sum greatest (Some above) (Some left) = tx_beside greatest above + tx_beside greatest left
tx_sum greatest (Some above) None = 2 * tx_beside greatest above
tx_sum greatest None (Some left) = 2 * tx_beside greatest left
tx_sum greatest None None = 2 * greatest

abbrev pub tx_context : BlockSize → Option BlockInfo → Option BlockInfo → ℕ
tx_context size above left = flag_number (nat_lt (greatest_of size) (tx_sum (greatest_of size) above left))

-- the tree of the sizes up to a greatest one, from 8x8 on, its probabilities, and as which kind it counts
abbrev pub tx_tree : TxSize → Tree
tx_tree T4x4 = tx8_tree
tx_tree T8x8 = tx8_tree
tx_tree T16x16 = tx16_tree
tx_tree T32x32 = tx32_tree

abbrev pub tx_probs : TxLists → TxSize → List ℕ
tx_probs lists T4x4 = lists.of_8x8
tx_probs lists T8x8 = lists.of_8x8
tx_probs lists T16x16 = lists.of_16x16
tx_probs lists T32x32 = lists.of_32x32

abbrev pub tx_kind : TxSize → ProbKind
tx_kind T4x4 = kind.Tx8x8
tx_kind T8x8 = kind.Tx8x8
tx_kind T16x16 = kind.Tx16x16
tx_kind T32x32 = kind.Tx32x32

-- a context has as many nodes as the number of the greatest size
unfoldable pub tx_symbol : TxLists → TxSize → ℕ → Syntax ℕ Rule (Settled TxSize)
tx_symbol lists greatest context = do
  number ← counted_tree (tx_kind greatest) (tx_number greatest * context) (tx_tree greatest) (drop (tx_number greatest * context) (tx_probs lists greatest))
  settle (tx_of number)

abbrev pub is_selected : TxMode → Bool
is_selected Selected = true
is_selected _ = false

-- coded where the frame leaves it to its blocks, and the block is 8x8 or more; else the greatest that is allowed
unfoldable pub read_tx_size : TxMode → TxLists → ℕ → BlockSize → Syntax ℕ Rule (Settled TxSize)
read_tx_size mode lists context size =
    if is_selected mode && not (is_below_8x8 size) then tx_symbol lists (tx_of (greatest_of size)) context
    else settle (tx_of (greatest_allowed mode size))
