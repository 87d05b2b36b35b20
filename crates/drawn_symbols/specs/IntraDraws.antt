-- Partitions and the modes of intra blocks, as they are drawn (6.4.3, 6.4.6 and 6.4.15 of the standard: decode_partition,
-- intra_frame_mode_info, intra_block_mode_info).
use Rattle.std.specs.Prelude.{ℕ, Bool, true, false, List, [], ◌∷◌}
use Rattle.vp9_types.specs.declared.block.BlockSize.{BlockSize}
use Rattle.vp9_types.specs.declared.block.IntraMode.{IntraMode}
use Rattle.vp9_types.specs.declared.block.IntraMode.TheVariants.{Dc}
use Rattle.vp9_types.specs.declared.block.Partition.{Partition}
use Rattle.vp9_types.specs.declared.block.Partition.TheVariants.{Horizontal, Vertical, Split}
use Rattle.vp9_tables.specs.SymbolTrees.{intra_mode_tree, partition_tree}
use Rattle.block_geometry.specs.Quarters.{starting_quarters, with_part}
use Rattle.block_plan.specs.declared.block.IntraPrediction.{IntraPrediction}
use Rattle.mode_syntax.specs.IntraModes.{intra_of}
use Rattle.mode_syntax.specs.Partitions.{partition_of, split_or}
use Rattle.drawn_symbols.specs.Draws.{Drawn, stay, ◌>>=◌, draw_flag, draw_leaf}

---- Partitions ----

-- of a square whose lower half begins inside the frame, or doesn't, and its right half: one half alone outside leaves a bool
unfoldable pub draw_partition : Bool → Bool → Drawn Partition
draw_partition true true = draw_leaf partition_tree >>= λ n. stay (partition_of n)
draw_partition false true = draw_flag >>= λ split. stay (split_or Horizontal split)
draw_partition true false = draw_flag >>= λ split. stay (split_or Vertical split)
draw_partition false false = stay Split

---- Intra modes ----

unfoldable pub draw_intra_mode : Drawn IntraMode
draw_intra_mode = draw_leaf intra_mode_tree >>= λ n. stay (intra_of n)

-- of the parts that begin at some quarters, one after another
unfoldable pub draw_each_mode : BlockSize → List ℕ → List IntraMode → Drawn (List IntraMode)
draw_each_mode size [] modes = stay modes
draw_each_mode size (k ∷ rest) modes = do
  mode ← draw_intra_mode
  draw_each_mode size rest (with_part size k mode modes)

-- the modes of the quarters of a block
unfoldable pub draw_luma : BlockSize → Drawn (List IntraMode)
draw_luma size = draw_each_mode size (starting_quarters size) (Dc ∷ Dc ∷ Dc ∷ Dc ∷ [])

-- the modes of luma, and the one of chroma
unfoldable pub draw_intra : BlockSize → Drawn IntraPrediction
draw_intra size = do
  luma ← draw_luma size
  chroma ← draw_intra_mode
  stay (record { luma = luma; chroma = chroma })
