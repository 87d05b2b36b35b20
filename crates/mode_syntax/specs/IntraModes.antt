-- The modes of intra frames' blocks (6.4.6 of the standard: default_intra_mode, default_uv_mode; their contexts in 9.3).
use Rattle.std.specs.Prelude.{ℕ, ◌+◌, ◌-◌, ◌*◌, List, [], ◌∷◌, Option, Some, None, get_or, slice_index_or, nat_eq, if◌then◌else◌}
use Rattle.vp9_types.specs.Syntax.{Syntax, done, ◌>>=◌}
use Rattle.vp9_types.specs.Trees.{tree_symbol}
use Rattle.vp9_types.specs.declared.block.BlockSize.{BlockSize}
use Rattle.vp9_types.specs.declared.block.IntraMode.{IntraMode}
use Rattle.vp9_types.specs.declared.block.IntraMode.TheVariants.{Dc, V, H, D45, D135, D117, D153, D207, D63, Tm}
use Rattle.vp9_types.specs.declared.rule.Rule.{Rule}
use Rattle.vp9_tables.specs.Numbers.{intra_number}
use Rattle.vp9_tables.specs.SymbolTrees.{intra_mode_tree}
use Rattle.vp9_tables.specs.declared.data.intra.TheConstants.{KF_Y_MODE, KF_UV_MODE}
use Rattle.block_geometry.specs.Quarters.{starting_quarters, with_part}
use Rattle.block_plan.specs.declared.block.BlockInfo.{BlockInfo}
use Rattle.block_plan.specs.declared.block.Prediction.{Prediction}
use Rattle.block_plan.specs.declared.block.Prediction.TheVariants.{Intra, Inter}
use Rattle.mode_syntax.specs.declared.intra_modes.EdgeModes.{EdgeModes}

-- the mode of a number
abbrev pub intra_of : ℕ → IntraMode
intra_of n =
    if nat_eq n 0 then Dc else (if nat_eq n 1 then V else (if nat_eq n 2 then H else (if nat_eq n 3 then D45
    else (if nat_eq n 4 then D135 else (if nat_eq n 5 then D117 else (if nat_eq n 6 then D153 else (if nat_eq n 7 then D207
    else (if nat_eq n 8 then D63 else Tm))))))))

unfoldable pub intra_mode_symbol : List ℕ → Syntax ℕ Rule IntraMode
intra_mode_symbol probs = do
  number ← tree_symbol intra_mode_tree probs
  done (intra_of number)

-- by the modes above and at the left
unfoldable pub default_intra_mode : IntraMode → IntraMode → Syntax ℕ Rule IntraMode
default_intra_mode above left = intra_mode_symbol (get_or KF_Y_MODE (10 * intra_number above + intra_number left) [])

-- by the last mode of luma
unfoldable pub default_uv_mode : IntraMode → Syntax ℕ Rule IntraMode
default_uv_mode luma = intra_mode_symbol (get_or KF_UV_MODE (intra_number luma) [])

-- the mode of a quarter of a block; DC in an inter block
abbrev pub quarter_mode : Prediction → ℕ → IntraMode
quarter_mode (Intra p) quarter = slice_index_or p.luma quarter Dc
quarter_mode (Inter p) quarter = Dc

-- DC where no block is there
abbrev pub mode_beside : Option BlockInfo → ℕ → IntraMode
mode_beside None quarter = Dc
mode_beside (Some block) quarter = quarter_mode block.prediction quarter

-- The modes of the 4x4 places above a block's first 8x8 place and at its left: the lower quarters of the block above, the
-- right ones of the block at the left.
abbrev pub edge_modes : Option BlockInfo → Option BlockInfo → EdgeModes
edge_modes above left = record {
  above_first = mode_beside above 2;
  above_second = mode_beside above 3;
  left_first = mode_beside left 1;
  left_second = mode_beside left 3;
}

-- The mode above a quarter, of those that are known: the upper ones have the edge's. So have 0 and 2 that at their left.
abbrev pub mode_above : EdgeModes → List IntraMode → ℕ → IntraMode
mode_above edge modes k =
    if nat_eq k 0 then edge.above_first else (if nat_eq k 1 then edge.above_second else slice_index_or modes (k - 2) Dc)

abbrev pub mode_at_left : EdgeModes → List IntraMode → ℕ → IntraMode
mode_at_left edge modes k =
    if nat_eq k 0 then edge.left_first else (if nat_eq k 2 then edge.left_second else slice_index_or modes (k - 1) Dc)

-- of the parts that begin at some quarters, one after another
unfoldable pub each_mode : BlockSize → EdgeModes → List ℕ → List IntraMode → Syntax ℕ Rule (List IntraMode)
each_mode size edge [] modes = done modes
each_mode size edge (k ∷ rest) modes = do
  mode ← default_intra_mode (mode_above edge modes k) (mode_at_left edge modes k)
  each_mode size edge rest (with_part size k mode modes)

-- the modes of the quarters of a block
unfoldable pub default_luma_modes : BlockSize → EdgeModes → Syntax ℕ Rule (List IntraMode)
default_luma_modes size edge = each_mode size edge (starting_quarters size) (Dc ∷ Dc ∷ Dc ∷ Dc ∷ [])

abbrev pub last_mode : List IntraMode → IntraMode
last_mode luma = slice_index_or luma 3 Dc
