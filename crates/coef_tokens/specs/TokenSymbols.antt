-- One token and its level: token, more_coefs, high bits and sign in 6.4.24 of the standard, with the probabilities of 9.3.
use Rattle.std.specs.Prelude.{ℕ, ◌+◌, ◌-◌, ◌*◌, ◌/◌, ◌%◌, ℤ, pos, neg_ℤ, Bool, List, [], ◌∷◌, map, slice_index, get_or, nat_eq, nat_lt, if◌then◌else◌}
use Rattle.std.specs.List.{range_with_len}
use Rattle.vp9_types.specs.declared.shape.Depth.{Depth}
use Rattle.vp9_types.specs.Syntax.{Syntax, done, ask, ◌>>=◌}
use Rattle.vp9_types.specs.Trees.{tree_symbol}
use Rattle.vp9_tables.specs.Coefficients.{category_of}
use Rattle.vp9_tables.specs.SymbolTrees.{coef_tail_from}
use Rattle.vp9_tables.specs.declared.data.coefficients.TheConstants.{PARETO, ENERGY_CLASS}
use Rattle.bool_decoder.specs.Bools.{flag}
use Rattle.coef_tokens.specs.declared.step.Step.{Step}
use Rattle.coef_tokens.specs.declared.step.Step.TheVariants.{Level}

-- the probability of a node of the tail: the row of an odd q, and at an even one half the sum with the next row
abbrev pub tail_prob : ℕ → ℕ → ℕ
tail_prob q node =
    let row = (q - 1) / 2 in
    if nat_eq (q % 2) 1 then slice_index (get_or PARETO row []) node
    else (slice_index (get_or PARETO row []) node + slice_index (get_or PARETO (row + 1) []) node) / 2

-- the eight nodes behind the third probability q
abbrev pub tail_probs : ℕ → List ℕ
tail_probs q = map (tail_prob q) (range_with_len 0 8)

-- a token of two or more: two, three, four, categories 1 to 6 (5 to 10)
unfoldable pub tail_token : {E : Type 0} → ℕ → Syntax ℕ E ℕ
tail_token q = tree_symbol (coef_tail_from 0) (tail_probs q)

-- bools at these probabilities behind a number: each doubles the number before it
unfoldable pub bits_from : {E : Type 0} → List ℕ → ℕ → Syntax ℕ E ℕ
bits_from [] x = done x
bits_from (p ∷ ps) x = ask p (λ v. bits_from ps (2 * x + v))

-- where the categories begin
abbrev pub category_base : ℕ → ℕ
category_base category = slice_index (5 ∷ 7 ∷ 11 ∷ 19 ∷ 35 ∷ 67 ∷ []) (category - 1)

-- what a token from one on stands for: itself, or the first number of its category and bits, the highest first
unfoldable pub coef_magnitude : {E : Type 0} → Depth → ℕ → Syntax ℕ E ℕ
coef_magnitude depth token =
    if nat_lt token 5 then done token
    else (bits_from (category_of (token - 4) depth) 0 >>= λ bits. done (category_base (token - 4) + bits))

-- a sign of 1 is negative
abbrev pub with_sign : Bool → ℕ → ℤ
with_sign negative m = if negative then neg_ℤ (pos m) else pos m

-- the class of a token, by which it counts for the contexts of later ones
abbrev pub class_of : ℕ → ℕ
class_of token = slice_index ENERGY_CLASS token

unfoldable pub level : {E : Type 0} → Depth → ℕ → Syntax ℕ E Step
level depth token = do
  m ← coef_magnitude depth token
  negative ← flag 128
  done (Level (with_sign negative m) (class_of token))
