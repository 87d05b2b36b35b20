-- What the code reads: the modes of blocks below 8x8, size by size.
use Rattle.std.specs.Prelude.{ℕ, List, [], ◌∷◌}
use Rattle.vp9_types.specs.Syntax.{Syntax, done, ◌>>=◌}
use Rattle.vp9_types.specs.declared.block.BlockSize.{BlockSize}
use Rattle.vp9_types.specs.declared.block.BlockSize.TheVariants.{B4x4, B4x8, B8x4}
use Rattle.vp9_types.specs.declared.block.IntraMode.{IntraMode}
use Rattle.vp9_types.specs.declared.rule.Rule.{Rule}
use Rattle.mode_syntax.specs.IntraModes.{default_intra_mode}
use Rattle.mode_syntax.specs.declared.intra_modes.EdgeModes.{EdgeModes}

-- one mode for all four quarters
unfoldable pub one_mode : EdgeModes → Syntax ℕ Rule (List IntraMode)
one_mode edge = do
  mode ← default_intra_mode edge.above_first edge.left_first
  done (mode ∷ mode ∷ mode ∷ mode ∷ [])

-- 8x4: an upper and a lower one
unfoldable pub two_rows : EdgeModes → Syntax ℕ Rule (List IntraMode)
two_rows edge = do
  upper ← default_intra_mode edge.above_first edge.left_first
  lower ← default_intra_mode upper edge.left_second
  done (upper ∷ upper ∷ lower ∷ lower ∷ [])

-- 4x8: one at the left and one at the right
unfoldable pub two_columns : EdgeModes → Syntax ℕ Rule (List IntraMode)
two_columns edge = do
  left ← default_intra_mode edge.above_first edge.left_first
  right ← default_intra_mode edge.above_second left
  done (left ∷ right ∷ left ∷ right ∷ [])

-- 4x4: one for each quarter
unfoldable pub four_modes : EdgeModes → Syntax ℕ Rule (List IntraMode)
four_modes edge = do
  first ← default_intra_mode edge.above_first edge.left_first
  second ← default_intra_mode edge.above_second first
  third ← default_intra_mode first edge.left_second
  fourth ← default_intra_mode second third
  done (first ∷ second ∷ third ∷ fourth ∷ [])

unfoldable pub modes_by_size : BlockSize → EdgeModes → Syntax ℕ Rule (List IntraMode)
modes_by_size B4x4 edge = four_modes edge
modes_by_size B4x8 edge = two_columns edge
modes_by_size B8x4 edge = two_rows edge
modes_by_size _ edge = one_mode edge
