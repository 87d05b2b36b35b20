-- Probabilities and tables of coefficients (9.3 and section 10 of the standard).
use Rattle.std.specs.Prelude.{ℕ, ◌+◌, ◌-◌, ◌*◌, Bool, not, List, [], ◌∷◌, ◌++◌, drop, map, replicate, nat_eq, nat_le, if◌then◌else◌}
use Rattle.std.specs.List.{range_with_len, list_any, filter}
use Rattle.vp9_types.specs.declared.block.TxSize.{TxSize}
use Rattle.vp9_types.specs.declared.block.TxSize.TheVariants.{T4x4}
use Rattle.vp9_types.specs.declared.shape.Depth.{Depth}
use Rattle.vp9_types.specs.declared.shape.Depth.TheVariants.{Eight, Ten, Twelve}
use Rattle.vp9_tables.specs.Numbers.{tx_number, flag_number}
use Rattle.vp9_tables.specs.declared.data.defaults.TheConstants.{PROB_COEF, PROB_COMP_FLAG, PROB_COMP_REF, PROB_FILTER, PROB_INTER_MODE, PROB_IS_INTER, PROB_MV_BITS, PROB_MV_CLASS, PROB_MV_CLASS0, PROB_MV_CLASS0_FR, PROB_MV_CLASS0_HP, PROB_MV_FR, PROB_MV_HP, PROB_MV_JOINT, PROB_MV_SIGN, PROB_PARTITION, PROB_SINGLE_REF, PROB_SKIP, PROB_TX16, PROB_TX32, PROB_TX8, PROB_UV_MODE, PROB_Y_MODE}
use Rattle.vp9_tables.specs.declared.data.coefficients.TheConstants.{CAT1_PROB, CAT2_PROB, CAT3_PROB, CAT4_PROB, CAT5_PROB, CAT6_PROB, COEF_BAND_4X4, COEF_BAND_LARGE}

-- 0 stands for no probability
abbrev pub is_probability : ℕ → Bool
is_probability p = nat_le 1 p

abbrev pub default_tables : List (List ℕ)
default_tables =
    PROB_COEF ∷ PROB_COMP_FLAG ∷ PROB_COMP_REF ∷ PROB_FILTER ∷ PROB_INTER_MODE ∷ PROB_IS_INTER ∷ PROB_MV_BITS ∷ PROB_MV_CLASS ∷ PROB_MV_CLASS0 ∷ PROB_MV_CLASS0_FR ∷ PROB_MV_CLASS0_HP ∷ PROB_MV_FR ∷ PROB_MV_HP ∷ PROB_MV_JOINT ∷ PROB_MV_SIGN ∷ PROB_PARTITION ∷ PROB_SINGLE_REF ∷ PROB_SKIP ∷ PROB_TX16 ∷ PROB_TX32 ∷ PROB_TX8 ∷ PROB_UV_MODE ∷ PROB_Y_MODE ∷ []

abbrev pub contexts_of_band : ℕ → ℕ
contexts_of_band band = if nat_eq band 0 then 3 else 6

-- the contexts of a table of coefficients, band after band, are 33
abbrev pub context_row : ℕ → ℕ → ℕ
context_row band context = if nat_eq band 0 then context else 6 * band + context - 3

abbrev pub coef_place : TxSize → Bool → Bool → ℕ → ℕ → ℕ
coef_place size chroma inter band context =
    33 * (4 * tx_number size + 2 * flag_number chroma + flag_number inter) + context_row band context

abbrev pub bands_of : TxSize → List ℕ
bands_of T4x4 = COEF_BAND_4X4
bands_of _ = COEF_BAND_LARGE

-- each band and how many places it has
abbrev pub spread : List (ℕ × ℕ) → List ℕ
spread [] = []
spread (run ∷ runs) = replicate run.1 run.0 ++ spread runs

-- two more for each further two bits of depth above 8
abbrev pub sixth_of : Depth → List ℕ
sixth_of Eight = drop 4 CAT6_PROB
sixth_of Ten = drop 2 CAT6_PROB
sixth_of Twelve = CAT6_PROB

-- the bits of a category from 1 to 6, the highest first
abbrev pub category_of : ℕ → Depth → List ℕ
category_of category depth =
    if nat_eq category 1 then CAT1_PROB
    else (if nat_eq category 2 then CAT2_PROB
    else (if nat_eq category 3 then CAT3_PROB
    else (if nat_eq category 4 then CAT4_PROB
    else (if nat_eq category 5 then CAT5_PROB else sixth_of depth))))

-- every thirteenth number from 7 on is coded shortest
abbrev pub coarse : List ℕ
coarse = map (λ i. 7 + 13 * i) (range_with_len 0 20)

-- then all the others up to 253, and 253 once more
abbrev pub inverse_map : List ℕ
inverse_map = coarse ++ filter (λ n. not (list_any (nat_eq n) coarse)) (range_with_len 1 253) ++ 253 ∷ []
