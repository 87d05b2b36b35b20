-- What the calls of the code answer, and how they draw: the pattern of each size below 8x8 written out.
use Rattle.std.specs.Prelude.{◌≡◌, ◌≢◌, ℕ, ◌<◌, Bool, List, [], ◌∷◌}
use Rattle.vp9_types.specs.declared.block.BlockSize.{BlockSize}
use Rattle.vp9_types.specs.declared.block.BlockSize.TheVariants.{B4x4, B4x8, B8x4}
use Rattle.vp9_types.specs.declared.block.InterpFilter.TheVariants.{Bilinear}
use Rattle.vp9_types.specs.declared.block.IntraMode.{IntraMode}
use Rattle.block_plan.specs.declared.block.Mv.{Mv}
use Rattle.block_plan.specs.declared.block.ReferenceFrames.{ReferenceFrames}
use Rattle.vector_writer.specs.VectorFits.{CanSayVectors, quarter_saying}
use Rattle.vector_writer.specs.SaidVectors.{mode_of_part, symbols_at}
use Rattle.vector_writer.specs.declared.symbols.InterSymbols.{InterSymbols}
use Rattle.vector_writer.specs.declared.symbols.QuarterSymbols.{QuarterSymbols}
use Rattle.drawn_symbols.specs.declared.quarters.Best.{Best}
use Rattle.drawn_symbols.specs.Draws.{Drawn, stay, ◌>>=◌}
use Rattle.drawn_symbols.specs.InterDraws.{draw_filter, draw_quarter, symbols_of}
use Rattle.drawn_symbols.specs.IntraDraws.{draw_intra_mode}

-- a quarter can say it, by the best vectors
abbrev pub CanBeQuarter : Best → QuarterSymbols → Type 0
CanBeQuarter b q = CanSayVectors b.allowed b.vectors b.references q

-- a block of a size can say it behind its references
pub record CanBeSymbols (b : Best) (size : BlockSize) (symbols : InterSymbols) : Type 0 where
  pub references : symbols.references ≡ b.references
  pub named : symbols.filter ≢ Bilinear
  pub same : (k : ℕ) → k < 4 → mode_of_part symbols.modes k ≡ mode_of_part symbols.modes (quarter_saying size k)
  pub vectors : (k : ℕ) → k < 4 → CanBeQuarter b (symbols_at symbols (quarter_saying size k))

---- By size ----

unfoldable pub draw_one_mode : Drawn (List IntraMode)
draw_one_mode = do
  mode ← draw_intra_mode
  stay (mode ∷ mode ∷ mode ∷ mode ∷ [])

-- 8x4: an upper and a lower one
unfoldable pub draw_two_rows : Drawn (List IntraMode)
draw_two_rows = do
  upper ← draw_intra_mode
  lower ← draw_intra_mode
  stay (upper ∷ upper ∷ lower ∷ lower ∷ [])

-- 4x8: one at the left and one at the right
unfoldable pub draw_two_columns : Drawn (List IntraMode)
draw_two_columns = do
  left ← draw_intra_mode
  right ← draw_intra_mode
  stay (left ∷ right ∷ left ∷ right ∷ [])

-- 4x4: one for each quarter
unfoldable pub draw_four_modes : Drawn (List IntraMode)
draw_four_modes = do
  first ← draw_intra_mode
  second ← draw_intra_mode
  third ← draw_intra_mode
  fourth ← draw_intra_mode
  stay (first ∷ second ∷ third ∷ fourth ∷ [])

unfoldable pub luma_drawn_by_size : BlockSize → Drawn (List IntraMode)
luma_drawn_by_size B4x4 = draw_four_modes
luma_drawn_by_size B4x8 = draw_two_columns
luma_drawn_by_size B8x4 = draw_two_rows
luma_drawn_by_size size = draw_one_mode

-- 4x4: one quarter after another
unfoldable pub draw_four : Bool → List Mv → ReferenceFrames → Drawn InterSymbols
draw_four allowed best refs = do
  filter ← draw_filter
  q ← draw_quarter allowed best refs
  r ← draw_quarter allowed best refs
  t ← draw_quarter allowed best refs
  u ← draw_quarter allowed best refs
  stay (symbols_of refs filter (q ∷ r ∷ t ∷ u ∷ []))

-- 4x8: one at the left and one at the right
unfoldable pub draw_columns : Bool → List Mv → ReferenceFrames → Drawn InterSymbols
draw_columns allowed best refs = do
  filter ← draw_filter
  q ← draw_quarter allowed best refs
  r ← draw_quarter allowed best refs
  stay (symbols_of refs filter (q ∷ r ∷ q ∷ r ∷ []))

-- 8x4: an upper and a lower one
unfoldable pub draw_rows : Bool → List Mv → ReferenceFrames → Drawn InterSymbols
draw_rows allowed best refs = do
  filter ← draw_filter
  q ← draw_quarter allowed best refs
  r ← draw_quarter allowed best refs
  stay (symbols_of refs filter (q ∷ q ∷ r ∷ r ∷ []))

unfoldable pub quarters_drawn_by_size : Bool → List Mv → ReferenceFrames → BlockSize → Drawn InterSymbols
quarters_drawn_by_size allowed best refs B4x8 = draw_columns allowed best refs
quarters_drawn_by_size allowed best refs B8x4 = draw_rows allowed best refs
quarters_drawn_by_size allowed best refs size = draw_four allowed best refs
