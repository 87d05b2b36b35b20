-- The prediction that an inter block's symbols say (6.4.16 and 6.4.18 of the standard: inter_block_mode_info, assign_mv).
use Rattle.std.specs.Prelude.{◌≡◌, ℕ, List, [], ◌∷◌, Option, Some, None, Result, Ok, slice_index_or, if◌then◌else◌}
use Rattle.vp9_types.specs.Results.{◌>>=◌}
use Rattle.vp9_types.specs.declared.block.BlockSize.{BlockSize}
use Rattle.vp9_types.specs.declared.block.BlockSize.TheVariants.{B4x8, B8x4}
use Rattle.vp9_types.specs.declared.block.InterMode.{InterMode}
use Rattle.vp9_types.specs.declared.block.InterMode.TheVariants.{Nearest, Near, Zero, New}
use Rattle.vp9_types.specs.declared.block.ReferenceFrame.{ReferenceFrame}
use Rattle.vp9_types.specs.declared.rule.Rule.{Rule}
use Rattle.block_geometry.specs.BlockSizes.{is_below_8x8}
use Rattle.block_plan.specs.BlockMvs.{no_vector, vector_at}
use Rattle.block_plan.specs.declared.block.InterPrediction.{InterPrediction}
use Rattle.block_plan.specs.declared.block.Mv.{Mv}
use Rattle.block_plan.specs.declared.block.ReferenceFrames.{ReferenceFrames}
use Rattle.mv_prediction.specs.declared.sub_blocks.NearVectors.{NearVectors}
use Rattle.mv_syntax.specs.Differences.{added, in_range_or_rule}
use Rattle.inter_modes.specs.BlockVectors.{Sources, near_of_block, near_of_quarter, best_mv, row_vectors, of_list, nothing_before, before_of}
use Rattle.inter_modes.specs.ModeInfo.{whole_prediction, quarters_prediction}
use Rattle.inter_modes.specs.declared.quarters.Quarter.{Quarter}
use Rattle.inter_modes.specs.declared.quarters.QuartersBefore.{QuartersBefore}
use Rattle.vector_writer.specs.declared.symbols.InterSymbols.{InterSymbols}
use Rattle.vector_writer.specs.declared.symbols.QuarterSymbols.{QuarterSymbols}

-- what a quarter says
abbrev pub mode_of_part : List InterMode → ℕ → InterMode
mode_of_part modes k = slice_index_or modes k Zero

abbrev pub symbols_at : InterSymbols → ℕ → QuarterSymbols
symbols_at symbols k = record { mode = mode_of_part symbols.modes k; differences = row_vectors symbols.differences k }

-- Of one list, from the best vector and the nearest and near one: a new vector is the best one and the difference, or breaks
-- the rule of its range.
unfoldable pub vector_said : InterMode → Mv → NearVectors → Mv → Result Mv Rule
vector_said Nearest best near difference = Ok near.nearest
vector_said Near best near difference = Ok near.near
vector_said Zero best near difference = Ok no_vector
vector_said New best near difference = in_range_or_rule (added best difference)

-- a second vector, if there is a second reference
unfoldable pub second_said : Mv → Option ReferenceFrame → (ReferenceFrame → Result Mv Rule) → Result (List Mv) Rule
second_said first None vector = Ok (first ∷ no_vector ∷ [])
second_said first (Some reference) vector = vector reference >>= λ second. Ok (first ∷ second ∷ [])

---- Blocks of 8x8 or more ----

unfoldable pub block_vector_said : Sources → QuarterSymbols → ReferenceFrame → ℕ → Result Mv Rule
block_vector_said s said reference list =
    vector_said said.mode (near_of_block s reference).nearest (near_of_block s reference) (vector_at said.differences list)

unfoldable pub block_vectors_said : Sources → QuarterSymbols → ReferenceFrames → Result (List Mv) Rule
block_vectors_said s said refs =
    block_vector_said s said refs.first 0 >>= λ first. second_said first refs.second (λ reference. block_vector_said s said reference 1)

---- Quarters of blocks below 8x8 ----

unfoldable pub quarter_vector_said : Sources → QuarterSymbols → ReferenceFrame → ℕ → ℕ → QuartersBefore → Result Mv Rule
quarter_vector_said s said reference list k before =
    vector_said said.mode (vector_at before.best list) (near_of_quarter s reference k (of_list list before.rows)) (vector_at said.differences list)

unfoldable pub quarter_vectors_said : Sources → QuarterSymbols → ReferenceFrames → ℕ → QuartersBefore → Result (List Mv) Rule
quarter_vectors_said s said refs k before =
    quarter_vector_said s said refs.first 0 k before
    >>= λ first. second_said first refs.second (λ reference. quarter_vector_said s said reference 1 k before)

unfoldable pub quarter_said : Sources → QuarterSymbols → ReferenceFrames → ℕ → QuartersBefore → Result Quarter Rule
quarter_said s said refs k before =
    quarter_vectors_said s said refs k before >>= λ vectors. Ok (record { mode = said.mode; vectors = vectors })

-- 4x4: one after another
unfoldable pub four_said : Sources → InterSymbols → List Mv → Result (List Quarter) Rule
four_said s symbols best =
    quarter_said s (symbols_at symbols 0) symbols.references 0 (before_of best nothing_before nothing_before nothing_before)
    >>= λ q. quarter_said s (symbols_at symbols 1) symbols.references 1 (before_of best q.vectors nothing_before nothing_before)
    >>= λ r. quarter_said s (symbols_at symbols 2) symbols.references 2 (before_of best q.vectors r.vectors nothing_before)
    >>= λ t. quarter_said s (symbols_at symbols 3) symbols.references 3 (before_of best q.vectors r.vectors t.vectors)
    >>= λ u. Ok (q ∷ r ∷ t ∷ u ∷ [])

-- 4x8: one at the left and one at the right
unfoldable pub columns_said : Sources → InterSymbols → List Mv → Result (List Quarter) Rule
columns_said s symbols best =
    quarter_said s (symbols_at symbols 0) symbols.references 0 (before_of best nothing_before nothing_before nothing_before)
    >>= λ q. quarter_said s (symbols_at symbols 1) symbols.references 1 (before_of best q.vectors nothing_before nothing_before)
    >>= λ r. Ok (q ∷ r ∷ q ∷ r ∷ [])

-- 8x4: an upper and a lower one
unfoldable pub rows_said : Sources → InterSymbols → List Mv → Result (List Quarter) Rule
rows_said s symbols best =
    quarter_said s (symbols_at symbols 0) symbols.references 0 (before_of best nothing_before nothing_before nothing_before)
    >>= λ q. quarter_said s (symbols_at symbols 2) symbols.references 2 (before_of best q.vectors q.vectors nothing_before)
    >>= λ r. Ok (q ∷ q ∷ r ∷ r ∷ [])

unfoldable pub quarters_said : Sources → InterSymbols → BlockSize → Result (List Quarter) Rule
quarters_said s symbols B4x8 = columns_said s symbols (best_mv s symbols.references)
quarters_said s symbols B8x4 = rows_said s symbols (best_mv s symbols.references)
quarters_said s symbols size = four_said s symbols (best_mv s symbols.references)

---- Blocks ----

unfoldable pub whole_said : Sources → InterSymbols → Result InterPrediction Rule
whole_said s symbols =
    block_vectors_said s (symbols_at symbols 0) symbols.references
    >>= λ vectors. Ok (whole_prediction symbols.references symbols.filter (mode_of_part symbols.modes 0) vectors)

unfoldable pub of_quarters_said : Sources → InterSymbols → Result InterPrediction Rule
of_quarters_said s symbols =
    quarters_said s symbols s.search.at.size >>= λ qs. Ok (quarters_prediction symbols.references symbols.filter qs)

unfoldable pub inter_said : Sources → InterSymbols → Result InterPrediction Rule
inter_said s symbols = if is_below_8x8 s.search.at.size then of_quarters_said s symbols else whole_said s symbols

-- a prediction has the modes, the references and the filter that were said
pub record HasSaid (symbols : InterSymbols) (p : InterPrediction) : Type 0 where
  pub modes : p.modes ≡ symbols.modes
  pub references : p.references ≡ symbols.references
  pub filter : p.filter ≡ symbols.filter
