-- What the levels of a transform block are put as (6.4.24 of the standard; 9.3 for the probabilities).
use Rattle.std.specs.Prelude.{ℕ, zero, suc, ◌+◌, ◌-◌, ◌/◌, ◌%◌, ◌^◌, ℤ, pos, int_lt, unsigned_abs, Bool, true, false, not, List, [], ◌∷◌, ◌++◌, length, slice_index, nat_eq, nat_lt, if◌then◌else◌}
use Rattle.std.specs.Ordering.{int_eq}
use Rattle.vp9_types.specs.declared.shape.Depth.{Depth}
use Rattle.vp9_tables.specs.Coefficients.{category_of}
use Rattle.vp9_tables.specs.SymbolTrees.{coef_tail_from}
use Rattle.bool_lists.specs.BoolLists.{BoolList, one_bool, tree_bools}
use Rattle.coef_tokens.specs.TokenSymbols.{category_base, class_of, tail_probs}
use Rattle.coef_tokens.specs.Places.{Tables, Tokens, no_tokens, row_at, with_level, with_zero}
use Rattle.token_writer.specs.TokenFits.{level_in}

---- A level ----

-- the token of a magnitude from one on: itself below 5, and 5 to 10 for the six categories
unfoldable pub token_of : ℕ → ℕ
token_of m =
    if nat_lt m 5 then m
    else (if nat_lt m 7 then 5
    else (if nat_lt m 11 then 6
    else (if nat_lt m 19 then 7
    else (if nat_lt m 35 then 8
    else (if nat_lt m 67 then 9 else 10)))))

-- by the third probability of its place: whether it is larger than one, and then which it is of the tail's
unfoldable pub spelled_token : ℕ → ℕ → BoolList
spelled_token third token =
    if nat_eq token 1 then one_bool third false else (one_bool third true ++ tree_bools (coef_tail_from 0) (tail_probs third) token)

-- the bits of a number at these probabilities, the highest first
unfoldable pub category_bits : List ℕ → ℕ → BoolList
category_bits [] x = []
category_bits (p ∷ ps) x = (p, x / 2 ^ length ps % 2) ∷ category_bits ps x

-- of a magnitude in a category: how far it lies from the first one
unfoldable pub spelled_rest : Depth → ℕ → ℕ → BoolList
spelled_rest depth token m = if nat_lt token 5 then [] else category_bits (category_of (token - 4) depth) (m - category_base (token - 4))

-- and last its sign, 1 where it is negative
unfoldable pub spelled_level : Depth → ℕ → ℤ → BoolList
spelled_level depth third z =
    spelled_token third (token_of (unsigned_abs z)) ++ spelled_rest depth (token_of (unsigned_abs z)) (unsigned_abs z) ++ one_bool 128 (int_lt z (pos 0))

---- A transform block ----

-- whether there are more; behind a zero there always are
unfoldable pub spelled_more : Bool → ℕ → Bool → BoolList
spelled_more check p more = if check then one_bool p more else []

-- no token at a place with a zero
unfoldable pub spelled_coef : Depth → ℕ → ℕ → ℤ → BoolList
spelled_coef depth second third z = if int_eq z (pos 0) then one_bool second false else (one_bool second true ++ spelled_level depth third z)

-- a place that is coded, by the row of its three probabilities
unfoldable pub spelled_place : Tables → ℕ → Bool → ℤ → BoolList
spelled_place t row check z =
    spelled_more check (slice_index t.probs row) true ++ spelled_coef t.depth (slice_index t.probs (row + 1)) (slice_index t.probs (row + 2)) z

-- a place more, for the contexts of those behind it
abbrev pub with_coded : Tokens → ℕ → ℤ → Tokens
with_coded p position z = if int_eq z (pos 0) then with_zero p else with_level p position z (class_of (token_of (unsigned_abs z)))

-- the positions still to come, of which so many are coded; the first behind these says that there are no more
unfoldable pub spelled_levels_from : Tables → ℕ → List ℤ → List ℕ → ℕ → Bool → Tokens → BoolList
spelled_levels_from t first levels [] left check p = []
spelled_levels_from t first levels (position ∷ positions) zero check p = spelled_more check (slice_index t.probs (row_at t first p.count p.reads)) false
spelled_levels_from t first levels (position ∷ positions) (suc left) check p =
    spelled_place t (row_at t first p.count p.reads) check (level_in levels position)
    ++ spelled_levels_from t first levels positions left (not (int_eq (level_in levels position) (pos 0))) (with_coded p position (level_in levels position))

-- levels by position, of which so many places of the scan are coded; `first` is the context of the first place
unfoldable pub spelled_levels : Tables → ℕ → List ℤ → ℕ → BoolList
spelled_levels t first levels count = spelled_levels_from t first levels t.scan count true no_tokens
