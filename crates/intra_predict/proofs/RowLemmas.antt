-- Rows of a block buffer.
use Rattle.std.proofs.Common.{◌≡◌, ◌<◌, ◌≤◌, ◌+◌, ◌*◌, ◌/◌, ◌%◌, inl, inr, ℕ, sym, ◌∙◌, arith, List, get_or}
use Rattle.std.specs.Prelude.{nat_eq, if◌then◌else◌}
use Rattle.std.proofs.lemmas.Bool.{cases_lt}
use Rattle.std.proofs.lemmas.Bool.Decides.{nat_tests}
use Rattle.vp9_types.specs.Maps.{Map, HoldsRows}
use Rattle.planes.proofs.RowLemmas.{next}

-- one row more of a block is written
pub row_more : (f : Map) (size i : ℕ) (xs ys : List ℕ) → HoldsRows xs size i f
    → ((j : ℕ) → j < size → get_or ys (i * size + j) 0 ≡ f i j)
    → ((k : ℕ) → k < i * size → get_or ys k 0 ≡ get_or xs k 0)
    → HoldsRows ys size (i + 1) f
row_more f size i xs ys so here kept = λ r j below low. elim (cases_lt r i) [
  | inl earlier ↦ kept (r * size + j) (omega (arith, next size r i earlier)) ∙ so r j earlier low
  | inr now ↦ let last : r ≡ i = omega arith in rw last (here j low)
]

-- rows of two blocks in turn
abbrev pub in_turn : Map → Map → Map
in_turn even odd = λ i j. if nat_eq (i % 2) 0 then even (i / 2) j else odd (i / 2) j

even_row : (even odd : Map) (k j : ℕ) → in_turn even odd (2 * k) j ≡ even k j
even_row even odd k j = let half : 2 * k / 2 ≡ k = omega arith in rw half (grind (arith, nat_tests))

odd_row : (even odd : Map) (k j : ℕ) → in_turn even odd (2 * k + 1) j ≡ odd k j
odd_row even odd k j = let half : (2 * k + 1) / 2 ≡ k = omega arith in rw half (grind (arith, nat_tests))

two_more : (k : ℕ) → 2 * (k + 1) ≡ 2 * k + 1 + 1
two_more k = omega arith

pub pair_more : (even odd : Map) (size k : ℕ) (xs ys zs : List ℕ) → HoldsRows xs size (2 * k) (in_turn even odd)
    → ((j : ℕ) → j < size → get_or ys (2 * k * size + j) 0 ≡ even k j)
    → ((n : ℕ) → n < 2 * k * size → get_or ys n 0 ≡ get_or xs n 0)
    → ((j : ℕ) → j < size → get_or zs ((2 * k + 1) * size + j) 0 ≡ odd k j)
    → ((n : ℕ) → n < (2 * k + 1) * size → get_or zs n 0 ≡ get_or ys n 0)
    → HoldsRows zs size (2 * (k + 1)) (in_turn even odd)
pair_more even odd size k xs ys zs so first kept second also_kept = rw two_more
    (row_more (in_turn even odd) size (2 * k + 1) ys zs
    (row_more (in_turn even odd) size (2 * k) xs ys so (λ j low. first j low ∙ sym (even_row even odd k j)) kept)
    (λ j low. second j low ∙ sym (odd_row even odd k j)) also_kept)

-- a row is inside of its block
pub row_fits : (size i long : ℕ) → i < size → size * size ≤ long → i * size + size ≤ long
row_fits size i long lt whole = omega (arith, next size i size lt)
