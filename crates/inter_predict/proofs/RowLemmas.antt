-- Rows as a reference gives them.
use Rattle.std.proofs.Common.{◌≡◌, ℕ, List, map, ◌<◌, ◌≤◌, ◌∙◌, length, ap, sym, arith, inl, inr}
use Rattle.std.specs.Prelude.{slice_index}
use Rattle.std.proofs.lemmas.Bool.{cases_lt}
use Rattle.std.proofs.lemmas.List.{get_or_past, length-map}
use Rattle.std.proofs.lemmas.List.FromFn.{get_or-map-range_with_len, length-map-range_with_len}
use Rattle.vp9_types.specs.Maps.{Map, row_of, IsAtMost}

pub row_long : (m : Map) (y w : ℕ) → length (row_of m y 0 w) ≡ w
row_long m y w = length-map-range_with_len (m y) 0 w

pub row_entry : (m : Map) (y w c : ℕ) → c < w → slice_index (row_of m y 0 w) c ≡ m y c
row_entry m y w c low = get_or-map-range_with_len (m y) 0 w c c 0 low (omega arith)

pub row_small : (m : Map) (most y w c : ℕ) → IsAtMost most m → slice_index (row_of m y 0 w) c ≤ most
row_small m most y w c small = elim (cases_lt c w) [
  | inl low ↦ rw (row_entry m y w c low) (small y c)
  | inr past ↦ let none = get_or_past (row_of m y 0 w) c 0 (omega (arith, row_long m y w)) in rw none (omega arith)
]

-- samples that stand for a row
pub kept_long : {X : Type 0} (f : X → ℕ) (xs : List X) (m : Map) (y w : ℕ) → map f xs ≡ row_of m y 0 w → length xs ≡ w
kept_long f xs m y w is = sym (length-map xs f) ∙ (ap (λ (ys : List ℕ). length ys) is ∙ row_long m y w)
