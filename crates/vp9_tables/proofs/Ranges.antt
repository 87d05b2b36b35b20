-- Rows of probabilities.
use Rattle.std.proofs.Common.{arith, ◌≡◌, ℕ, ◌<◌, ◌≤◌, refl, true, List, [], ◌∷◌, length, get_or, nat_le, All, inl, inr}
use Rattle.std.specs.List.{list_all}
use Rattle.std.proofs.lemmas.Bool.{and_parts, leb-true, agree_below_at, cases_lt}
use Rattle.std.proofs.lemmas.List.{get_or_past}
use Rattle.std.proofs.lemmas.List.Elements.{All-cons, All-nil, All-get_or}
use Rattle.std.proofs.lemmas.List.Sums.{AllPass-from_list_all}
use Rattle.vp9_types.specs.declared.shape.Depth.{Depth}
use Rattle.vp9_types.specs.declared.shape.Depth.TheVariants.{Eight, Ten, Twelve}
use Rattle.vp9_types.specs.declared.block.TxSize.{TxSize}
use Rattle.vp9_types.specs.declared.block.TxSize.TheVariants.{T4x4, T8x8, T16x16, T32x32}
use Rattle.vp9_tables.specs.Scans.{area}
use Rattle.vp9_tables.specs.Filters.{AreTaps, has_small_sums, is_small, sum_above, sum_below}
use Rattle.std.specs.Prelude.{ℤ, pos, unsigned_abs, slice_index_or}
use Rattle.vp9_tables.specs.Coefficients.{bands_of, is_probability, category_of}

pub each_least : (xs : List ℕ) → list_all is_probability xs ≡ true → All (λ p. 1 ≤ p) xs
each_least [] t = All-nil (λ p. 1 ≤ p)
each_least (x ∷ xs) t =
    let u = and_parts (nat_le 1 x) (list_all is_probability xs) t in
    All-cons (λ p. 1 ≤ p) x xs (leb-true 1 x u.0) (each_least xs u.1)

pub row_of_probabilities : (rows : List (List ℕ)) (i : ℕ) → list_all (list_all is_probability) rows ≡ true → i < length rows → All (λ p. 1 ≤ p) (get_or rows i [])
row_of_probabilities rows i t h = each_least (get_or rows i []) (AllPass-from_list_all (list_all is_probability) rows t i [] h)

category_passes : (category : ℕ) (depth : Depth) → category < 7 → list_all is_probability (category_of category depth) ≡ true
category_passes category Eight h = agree_below_at (λ k. list_all is_probability (category_of k Eight)) (λ _. true) 7 category refl h
category_passes category Ten h = agree_below_at (λ k. list_all is_probability (category_of k Ten)) (λ _. true) 7 category refl h
category_passes category Twelve h = agree_below_at (λ k. list_all is_probability (category_of k Twelve)) (λ _. true) 7 category refl h

pub category_least : (category : ℕ) (depth : Depth) → category < 7 → All (λ p. 1 ≤ p) (category_of category depth)
category_least category depth h = each_least (category_of category depth) (category_passes category depth h)

each_small : (xs : List ℤ) → list_all is_small xs ≡ true → All (λ t. unsigned_abs t ≤ 128) xs
each_small [] t = All-nil (λ t. unsigned_abs t ≤ 128)
each_small (x ∷ xs) t =
    let u = and_parts (is_small x) (list_all is_small xs) t in
    All-cons (λ t. unsigned_abs t ≤ 128) x xs (leb-true (unsigned_abs x) 128 u.0) (each_small xs u.1)

pub row_of_taps : (rows : List (List ℤ)) (i : ℕ) → list_all (list_all is_small) rows ≡ true → i < length rows → All (λ t. unsigned_abs t ≤ 128) (get_or rows i [])
row_of_taps rows i t h = each_small (get_or rows i []) (AllPass-from_list_all (list_all is_small) rows t i [] h)

each_tap : (taps : List ℤ) → All (λ t. unsigned_abs t ≤ 128) taps → (k : ℕ) → unsigned_abs (slice_index_or taps k (pos 0)) ≤ 128
each_tap taps small k = elim (cases_lt k (length taps)) [
  | inl low ↦ All-get_or (λ t. unsigned_abs t ≤ 128) taps k (pos 0) low small
  | inr past ↦ rw (get_or_past taps k (pos 0) past) (omega arith)
]

pub row_are_taps : (rows : List (List ℤ)) (i : ℕ) → list_all (list_all is_small) rows ≡ true → list_all has_small_sums rows ≡ true → i < length rows → AreTaps (get_or rows i [])
row_are_taps rows i small sums h =
    let taps : List ℤ = get_or rows i [] in
    let u = and_parts (nat_le (sum_above taps 8) 192) (nat_le (sum_below taps 8) 64) (AllPass-from_list_all has_small_sums rows sums i [] h) in
    record {
      small = each_tap taps (row_of_taps rows i small h);
      above = leb-true (sum_above taps 8) 192 u.0;
      below = leb-true (sum_below taps 8) 64 u.1;
    }

each_band : (xs : List ℕ) → list_all (λ n. nat_le n 5) xs ≡ true → All (λ n. n ≤ 5) xs
each_band [] t = All-nil (λ n. n ≤ 5)
each_band (x ∷ xs) t =
    let u = and_parts (nat_le x 5) (list_all (λ n. nat_le n 5) xs) t in
    All-cons (λ n. n ≤ 5) x xs (leb-true x 5 u.0) (each_band xs u.1)

bands_pass : (size : TxSize) → list_all (λ n. nat_le n 5) (bands_of size) ≡ true
bands_pass T4x4 = refl
bands_pass T8x8 = refl
bands_pass T16x16 = refl
bands_pass T32x32 = refl

pub bands_within : (size : TxSize) → All (λ n. n ≤ 5) (bands_of size)
bands_within size = each_band (bands_of size) (bands_pass size)

pub bands_enough : (size : TxSize) → area size ≤ length (bands_of size)
bands_enough T4x4 = omega arith
bands_enough T8x8 = omega arith
bands_enough T16x16 = omega arith
bands_enough T32x32 = omega arith
