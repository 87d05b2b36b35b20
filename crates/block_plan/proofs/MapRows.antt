-- Rows of a map: a part of one as a list, and a part filled with one number.
use Rattle.std.proofs.Common.{◌≡◌, ℕ, ◌+◌, ◌-◌, ◌*◌, ◌<◌, ◌≤◌, ◌&&◌, ◌++◌, ◌∷◌, [], ◌∙◌, List, length, get_or, take, drop, min, replicate, inl, inr, refl, sym, ap, arith, mul-le-mul_right, if◌then◌else◌, nat_lt}
use Rattle.std.proofs.Math.Path.{fun_ext}
use Rattle.std.proofs.lemmas.Bool.{cases_lt, cases_Bool, lt-ltb}
use Rattle.std.proofs.lemmas.Bool.Decides.{nat_tests}
use Rattle.std.proofs.lemmas.List.{get_or_default, get_or_past, get_or-take, get_or-drop, get_or-replicate, same_lists, length-take-le, length-drop, length-replicate, append-nil, map-id}
use Rattle.std.proofs.lemmas.List.FromFn.{length-map-range_with_len, get_or-map-range_with_len, map-range_with_len_more}
use Rattle.std.proofs.lemmas.List.Sums.{fold-append}
use Rattle.std.proofs.lemmas.Grind.{flat_map-append}
use Rattle.std.specs.List.{fold, flat_map, range_with_len}
use Rattle.block_geometry.specs.declared.parts.Part.{Part}
use Rattle.block_plan.specs.SegmentMaps.{least_id}
use Rattle.vp9_types.specs.Maps.{rows_of, row_of, with_block, is_within}

more : (a b : ℕ) → a < b → a + 1 ≤ b
more a b lt = omega arith

-- two places in rows of one width
pub next : (width a b : ℕ) → a < b → a * width + width ≤ b * width
next width a b lt = omega (arith, mul-le-mul_right width (more a b lt))

add-sub_left : (a b : ℕ) → a + b - a ≡ b
add-sub_left a b = omega arith

places : (base x k : ℕ) → base + x + k ≡ base + (x + k)
places base x k = omega arith

-- an element of a part of a row
element : (width : ℕ) (xs : List ℕ) (y x n k : ℕ) → x + n ≤ width → k < n → get_or (take n (drop (y * width + x) xs)) k 0 ≡ rows_of width xs y (x + k)
unfolding rows_of
element width xs y x n k wide low =
    let in_row : x + k < width = omega arith in
    rw (get_or-take, get_or-drop, lt-ltb (x + k) width in_row, places (y * width) x k) refl

-- a part of a row as a list
pub row_is : (width : ℕ) (xs : List ℕ) (y x n : ℕ) → x + n ≤ width → y * width + width ≤ length xs
    → take (y * width + x + n - (y * width + x)) (drop (y * width + x) xs) ≡ row_of (rows_of width xs) y x n
row_is width xs y x n wide high =
    let at = y * width + x in
    let long : length (take n (drop at xs)) ≡ n = length-take-le n (drop at xs) (omega (arith, length-drop at xs)) in
    rw (add-sub_left at n)
    (same_lists _ _ (long ∙ sym (length-map-range_with_len (rows_of width xs y) x n))
    (λ k d low. let lt : k < n = omega arith in
    get_or_default (take n (drop at xs)) k d 0 low
    ∙ element width xs y x n k wide lt
    ∙ sym (get_or-map-range_with_len (rows_of width xs y) x n k (x + k) d lt refl)))

-- what is not in a list is 0 in both
outside : (width : ℕ) (new old : List ℕ) (v row col rows cols r c : ℕ) → length new ≡ length old → (row + rows) * width ≤ length old → c < width → length old ≤ r * width + c
    → get_or new (r * width + c) 0 ≡ (if is_within row rows r && is_within col cols c then v else get_or old (r * width + c) 0)
outside width new old v row col rows cols r c long high low past =
    let nothing : get_or new (r * width + c) 0 ≡ 0 = get_or_past new (r * width + c) 0 (omega arith) in
    let none : get_or old (r * width + c) 0 ≡ 0 = get_or_past old (r * width + c) 0 past in
    rw (nothing, none) (elim (cases_lt r (row + rows)) [
      | inl inside ↦ let e = next width r (row + rows) inside in absurd (omega arith)
      | inr below ↦ grind (arith, nat_tests)
    ])

pub part_filled : (width : ℕ) (new old : List ℕ) (v row col rows cols : ℕ) → length new ≡ length old → col + cols ≤ width → (row + rows) * width ≤ length old
    → ((r c : ℕ) → c < width → get_or new (r * width + c) v ≡ (if is_within row rows r && is_within col cols c then v else get_or old (r * width + c) v))
    → rows_of width new ≡ with_block (rows_of width old) row col rows cols (λ _ _. v)
unfolding rows_of with_block
part_filled width new old v row col rows cols long wide high is = fun_ext λ r. fun_ext λ c. elim (cases_lt c width) [
  | inl low ↦ rw (lt-ltb c width low) (elim (cases_lt (r * width + c) (length old)) [
    | inl there ↦ get_or_default new (r * width + c) 0 v (omega arith) ∙ is r c low ∙ rw (get_or_default old (r * width + c) v 0 there) refl
    | inr past ↦ outside width new old v row col rows cols r c long high low past
  ])
  | inr past ↦ grind (arith, nat_tests)
]

pub zero_rows : (width n : ℕ) → rows_of width (replicate n 0) ≡ (λ y x. 0)
unfolding rows_of
zero_rows width n = fun_ext λ y. fun_ext λ x. elim (cases_Bool (nat_lt x width)) [
  | inl one ↦ rw one (elim (cases_lt (y * width + x) n) [
    | inl low ↦ rw get_or-replicate refl
    | inr past ↦ get_or_past (replicate n 0) (y * width + x) 0 (let zero : ℕ = 0 in omega (arith, length-replicate n zero))
  ])
  | inr none ↦ rw none refl
]

-- the least of one row more
pub least_more : (m : ℕ → ℕ → ℕ) (least next_least row col cols i : ℕ)
    → least ≡ fold min 7 (flat_map (λ r. row_of m r col cols) (range_with_len row i))
    → next_least ≡ fold min least (row_of m (row + i) col cols)
    → next_least ≡ fold min 7 (flat_map (λ r. row_of m r col cols) (range_with_len row (i + 1)))
least_more m least next_least row col cols i so is =
    let f = λ (r : ℕ). row_of m r col cols in
    is ∙ ap (λ z. fold min z (row_of m (row + i) col cols)) so
    ∙ sym (fold-append min 7 (flat_map f (range_with_len row i)) (f (row + i)))
    ∙ ap (fold min 7) (sym (whole f row i))
  where
    range_more : (row i : ℕ) → range_with_len row (i + 1) ≡ range_with_len row i ++ (row + i) ∷ []
    range_more row i = sym (map-id _) ∙ map-range_with_len_more (λ r. r) row i (row + i) refl ∙ ap (λ xs. xs ++ (row + i) ∷ []) (map-id _)

    whole : (f : ℕ → List ℕ) (row i : ℕ) → flat_map f (range_with_len row (i + 1)) ≡ flat_map f (range_with_len row i) ++ f (row + i)
    whole f row i = rw (range_more row i, flat_map-append) (ap (λ xs. flat_map f (range_with_len row i) ++ xs) (append-nil (f (row + i))))

pub least_all : (m : ℕ → ℕ → ℕ) (part : Part) (least i : ℕ) → i ≡ part.rows
    → least ≡ fold min 7 (flat_map (λ r. row_of m r part.col part.cols) (range_with_len part.row i)) → least ≡ least_id m part
unfolding least_id
least_all m part least i all so = so ∙ ap (λ n. fold min 7 (flat_map (λ r. row_of m r part.col part.cols) (range_with_len part.row n))) all
