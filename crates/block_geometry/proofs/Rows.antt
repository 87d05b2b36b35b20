-- Rows of a map of places, one after another.
use Rattle.std.proofs.Common.{◌≡◌, ℕ, ◌+◌, ◌*◌, ◌<◌, ◌≤◌, ◌&&◌, Bool, inl, inr, arith, mul-le-mul_right, if◌then◌else◌}
use Rattle.std.proofs.lemmas.Bool.{cases_order}
use Rattle.std.proofs.lemmas.Bool.Decides.{nat_tests}
use Rattle.vp9_types.specs.Maps.{is_within}

more : (a b : ℕ) → a < b → a + 1 ≤ b
more a b lt = omega arith

-- two places in rows of one width
next : (width a b : ℕ) → a < b → a * width + width ≤ b * width
next width a b lt = omega (arith, mul-le-mul_right width (more a b lt))

-- a run of a row has places of that row alone
pub run_of_row : (width y x n r c : ℕ) → x + n ≤ width → c < width → is_within (y * width + x) n (r * width + c) ≡ (is_within y 1 r && is_within x n c)
run_of_row width y x n r c wide low = elim (cases_order r y) [
  | inl same ↦ rw same (here (y * width))
  | inr other ↦ elim other [
    | inl above ↦ let e = next width r y above in grind (arith, nat_tests)
    | inr below ↦ let e = next width y r below in grind (arith, nat_tests)
  ]
]
  where
    here : (base : ℕ) → is_within (base + x) n (base + c) ≡ (is_within y 1 y && is_within x n c)
    here base = grind (arith, nat_tests)

-- one row more
pub row_more : {X : Type 0} (row i r : ℕ) (in_cols : Bool) (value old : X)
    → (if is_within (row + i) 1 r && in_cols then value else (if is_within row i r && in_cols then value else old)) ≡ (if is_within row (i + 1) r && in_cols then value else old)
row_more row i r in_cols value old = grind (arith, nat_tests)
