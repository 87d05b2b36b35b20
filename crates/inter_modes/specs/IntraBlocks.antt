-- Intra blocks of inter frames (6.4.15 of the standard: intra_block_mode_info, and its probabilities in 9.3).
use Rattle.std.specs.Prelude.{ℕ, ◌+◌, ◌*◌, List, [], ◌∷◌, drop, slice_index}
use Rattle.vp9_types.specs.Syntax.{Syntax}
use Rattle.vp9_types.specs.declared.block.BlockSize.{BlockSize}
use Rattle.vp9_types.specs.declared.block.IntraMode.{IntraMode}
use Rattle.vp9_types.specs.declared.block.IntraMode.TheVariants.{Dc}
use Rattle.vp9_types.specs.declared.rule.Rule.{Rule}
use Rattle.vp9_tables.specs.Numbers.{block_number, intra_number}
use Rattle.vp9_tables.specs.SymbolTrees.{intra_mode_tree}
use Rattle.vp9_tables.specs.declared.data.blocks.TheConstants.{SIZE_GROUP}
use Rattle.prob_contexts.specs.declared.kind.ProbKind.TheVariants as kind
use Rattle.block_geometry.specs.Quarters.{starting_quarters, with_part}
use Rattle.block_plan.specs.declared.block.IntraPrediction.{IntraPrediction}
use Rattle.counting_reader.specs.Counting.{Settled, settle, ◌>>=◌}
use Rattle.counting_reader.specs.CountedSymbols.{counted_tree}
use Rattle.mode_syntax.specs.IntraModes.{intra_of, last_mode}

-- by a group of the block's size
unfoldable pub intra_mode : List ℕ → ℕ → Syntax ℕ Rule (Settled IntraMode)
intra_mode probs group = do
  number ← counted_tree kind.YMode (9 * group) intra_mode_tree (drop (9 * group) probs)
  settle (intra_of number)

-- by the mode of luma
unfoldable pub uv_mode : List ℕ → IntraMode → Syntax ℕ Rule (Settled IntraMode)
uv_mode probs luma = do
  number ← counted_tree kind.UvMode (9 * intra_number luma) intra_mode_tree (drop (9 * intra_number luma) probs)
  settle (intra_of number)

-- Of the parts that begin at some quarters, one after another, by the group of the block's size, which is 0 below 8x8.
unfoldable pub each_luma_mode : List ℕ → BlockSize → List ℕ → List IntraMode → Syntax ℕ Rule (Settled (List IntraMode))
each_luma_mode probs size [] modes = settle modes
each_luma_mode probs size (k ∷ rest) modes = do
  mode ← intra_mode probs (slice_index SIZE_GROUP (block_number size))
  each_luma_mode probs size rest (with_part size k mode modes)

-- the modes of the quarters of a block
unfoldable pub luma_modes : List ℕ → BlockSize → Syntax ℕ Rule (Settled (List IntraMode))
luma_modes probs size = each_luma_mode probs size (starting_quarters size) (Dc ∷ Dc ∷ Dc ∷ Dc ∷ [])

unfoldable pub intra_block_mode_info : List ℕ → List ℕ → BlockSize → Syntax ℕ Rule (Settled IntraPrediction)
intra_block_mode_info y_modes uv_modes size = do
  luma ← luma_modes y_modes size
  chroma ← uv_mode uv_modes (last_mode luma)
  settle (record { luma = luma; chroma = chroma })
