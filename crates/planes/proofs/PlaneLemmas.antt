-- Planes as maps: rows of them, and blocks put in.
use Rattle.std.proofs.Common.{◌≡◌, ◌<◌, ◌≤◌, ◌+◌, ◌*◌, ◌-◌, ◌&&◌, ℕ, inl, inr, refl, sym, ◌∙◌, arith, ap, List, length, get_or, take, drop, ◌++◌, subst, Bool, true, false, cond, ltb, leb, replicate, min, map}
use Rattle.std.proofs.Math.Nat.{mul-le-mul_right}
use Rattle.std.proofs.Math.Path.{fun_ext}
use Rattle.std.proofs.lemmas.Bool.{cases_lt, cases_Bool}
use Rattle.std.proofs.lemmas.Bool.Decides.{nat_tests}
use Rattle.std.proofs.lemmas.List.{get_or-take, get_or-drop, get_or-replicate, get_or_past, get_or_default, get_or-map, length-map, take-map, drop-map, map-append, same_lists, take_at, length-replicate, length-take, length-drop}
use Rattle.std.proofs.lemmas.List.FromFn.{length-map-range_with_len, get_or-map-range_with_len}
use Rattle.vp9_types.specs.Maps.{Map, IsAtMost, IsPiece, rows_of, row_of, with_block}
use Rattle.planes.specs.declared.area.Area.{Area}
use Rattle.planes.specs.Planes.{PlaneSamples, IsArea, StartsIn, moved_to, with_part, HasRow, lower_end, right_end}
use Rattle.planes.specs.Code.{place_in}
use Rattle.planes.specs.Code.{written_over, with_row}
use Rattle.planes.proofs.RowLemmas.{next, place, add-sub_left, row_put, map_mid}
use borrow.Rule.Slice.PartMut.{put_mid, same_len_mid}

zero_rows : (width n : ℕ) → rows_of width (replicate n 0) ≡ (λ _ _. 0)
unfolding rows_of
zero_rows width n = fun_ext λ y. fun_ext λ x. elim (cases_Bool (ltb x width)) [
  | inl one ↦ rw one (elim (cases_lt (y * width + x) n) [
    | inl low ↦ rw get_or-replicate refl
    | inr past ↦ get_or_past (replicate n 0) (y * width + x) 0 (let zero : ℕ = 0 in omega (arith, length-replicate n zero))
  ])
  | inr none ↦ rw none refl
]

moved_zeros : (row column : ℕ) → moved_to row column (λ _ _. 0) ≡ (λ _ _. 0)
unfolding moved_to
moved_zeros row column = fun_ext λ y. fun_ext λ x. grind (arith, nat_tests)

pub zero_map : (row column width n : ℕ) → moved_to row column (rows_of width (replicate n 0)) ≡ (λ _ _. 0)
zero_map row column width n = rw zero_rows (moved_zeros row column)

-- what the samples of an area show
abbrev pub area_map : Area → List ℕ → Map
area_map a xs = moved_to a.first_row a.first_column (rows_of a.columns xs)

moved_in : (first_row first_column : ℕ) (m : Map) (row column : ℕ) → first_row ≤ row → first_column ≤ column
    → moved_to first_row first_column m row column ≡ m (row - first_row) (column - first_column)
unfolding moved_to
moved_in first_row first_column m row column below right = grind (arith, nat_tests)

pub sample_is : (a : Area) (xs : List ℕ) (row column : ℕ) → a.first_row ≤ row → a.first_column ≤ column → column < right_end a
    → get_or xs (place_in a row column) 0 ≡ area_map a xs row column
sample_is a xs row column below right left = sym
    (moved_in a.first_row a.first_column _ row column below right
    ∙ place a.columns xs (row - a.first_row) (column - a.first_column) (omega arith))

pub row_fits : (a : Area) (row column n long : ℕ) → HasRow a row column n → long ≡ a.rows * a.columns → place_in a row column + n ≤ long
row_fits a row column n long inside whole =
    let high = next a.columns (row - a.first_row) a.rows (omega (arith, inside.above, inside.below)) in
    omega (arith, inside.left, inside.right)

-- a row further up
pub some_row : (a : Area) (row column : ℕ) → a.first_row < row → a.columns ≤ place_in a row column
some_row a row column below = let more : row - a.first_row ≡ (row - 1 - a.first_row) + 1 = omega (arith, below) in rw more (omega arith)

pub row_up : (a : Area) (row column : ℕ) → a.first_row < row → place_in a row column - a.columns ≡ place_in a (row - 1) column
row_up a row column below = let more : row - a.first_row ≡ (row - 1 - a.first_row) + 1 = omega (arith, below) in rw more (omega arith)

part_at : (at n : ℕ) (xs : List ℕ) (k : ℕ) → k < n → get_or (take (at + n - at) (drop at xs)) k 0 ≡ get_or xs (at + k) 0
part_at at n xs k low = rw (add-sub_left, get_or-take, get_or-drop) refl

length_part : (at n : ℕ) (xs : List ℕ) → at + n ≤ length xs → length (take (at + n - at) (drop at xs)) ≡ n
length_part at n xs fits = rw add-sub_left (omega (arith, length-take n (drop at xs), length-drop at xs))

-- a part of a row, sample by sample and as a list
pub row_samples : (a : Area) (xs : List ℕ) (row column n : ℕ) → HasRow a row column n → (j : ℕ) → j < n
    → get_or (take (place_in a row column + n - place_in a row column) (drop (place_in a row column) xs)) j 0
    ≡ area_map a xs row (column + j)
row_samples a xs row column n inside j low =
    let at : ℕ = place_in a row column in
    let here : at + j ≡ place_in a row (column + j) = omega (arith, inside.left) in
    part_at at n xs j low ∙ rw here (sample_is a xs row (column + j) inside.above (omega (arith, inside.left)) (omega (arith, inside.right)))

pub row_is : (a : Area) (xs : List ℕ) (row column n : ℕ) → HasRow a row column n → length xs ≡ a.rows * a.columns
    → take (place_in a row column + n - place_in a row column) (drop (place_in a row column) xs)
    ≡ row_of (area_map a xs) row column n
row_is a xs row column n inside whole =
    let at : ℕ = place_in a row column in
    let fits = row_fits a row column n (length xs) inside whole in
    let long = length_part at n xs fits in
    same_lists _ _ (long ∙ sym (length-map-range_with_len (area_map a xs row) column n))
    (λ k d low. let lt : k < n = omega arith in
    get_or_default (take (at + n - at) (drop at xs)) k d 0 low
    ∙ row_samples a xs row column n inside k lt
    ∙ sym (get_or-map-range_with_len (area_map a xs row) column n k (column + k) d lt refl))

pub block_moved : (m b : Map) (first_row first_column row column rows columns : ℕ) → first_row ≤ row → first_column ≤ column
    → moved_to first_row first_column (with_block m (row - first_row) (column - first_column) rows columns b)
    ≡ with_block (moved_to first_row first_column m) row column rows columns b
unfolding moved_to with_block
block_moved m b first_row first_column row column rows columns below right = fun_ext λ y. fun_ext λ x. grind (arith, nat_tests)

-- a sample some rows further down
pub column_sample : (a : Area) (xs : List ℕ) (row column i : ℕ) → a.first_row ≤ row → a.first_column ≤ column → column < right_end a
    → get_or xs (place_in a row column + i * a.columns) 0 ≡ area_map a xs (row + i) column
column_sample a xs row column i below right left =
    let here : place_in a row column + i * a.columns ≡ place_in a (row + i) column =
    moved_down row a.first_row i a.columns (column - a.first_column) below in
    rw here (sample_is a xs (row + i) column (omega (arith, below)) right left)
  where
    moved_down : (row first i columns x : ℕ) → first ≤ row → (row - first) * columns + x + i * columns ≡ (row + i - first) * columns + x
    moved_down row first i columns x below =
        let more : row + i - first ≡ (row - first) + i = omega (arith, below) in rw more (omega arith)

-- samples that come back from a loan
pub whole_loan : {X : Type 0} (n : ℕ) (xs ys : List X) → length ys ≡ length xs → n ≡ length xs → take n (ys ++ drop (length ys) xs) ≡ ys
whole_loan n xs ys same whole = take_at ys (drop (length ys) xs) n (same ∙ sym whole)

-- a block put into the rows of an area, which were lent
pub part_put : (a : Area) (xs ys : List ℕ) (len row column rows columns down across : ℕ) (b : Map) → a.first_row ≤ row → a.first_column ≤ column
    → len ≡ length xs → length ys ≡ length xs → down ≡ min rows (lower_end a - row) → across ≡ min columns (right_end a - column)
    → rows_of a.columns ys ≡ with_block (rows_of a.columns xs) (row - a.first_row) (column - a.first_column) down across b
    → area_map a (take len (ys ++ drop (length ys) xs)) ≡ with_part a (area_map a xs) row column rows columns b
part_put a xs ys len row column rows columns down across b below right whole same d e is =
    rw (whole_loan len xs ys same whole, ← d, ← e)
    (ap (moved_to a.first_row a.first_column) is
    ∙ block_moved (rows_of a.columns xs) b a.first_row a.first_column row column down across below right)

within : (a : Area) (row column n : ℕ) → HasRow a row column n → (row - a.first_row) * a.columns + a.columns ≤ a.rows * a.columns
within a row column n inside = next a.columns (row - a.first_row) a.rows (omega (arith, inside.above, inside.below))

row_over : (a : Area) (xs w : List ℕ) (row column : ℕ) → HasRow a row column (length w) → length xs ≡ a.rows * a.columns
    → area_map a (written_over xs (put_mid (place_in a row column) (length w) xs w))
    ≡ with_block (area_map a xs) row column 1 (length w) (λ _ j. get_or w j 0)
row_over a xs w row column inside whole =
    let at : ℕ = place_in a row column in
    let fits = row_fits a row column (length w) (length xs) inside whole in
    let same : written_over xs (put_mid at (length w) xs w) ≡ put_mid at (length w) xs w = whole_loan (length xs) xs (put_mid at (length w) xs w) (same_len_mid at (length w) xs w (sym (omega (arith, length-take (length w) (drop at xs), length-drop at xs)))) refl in
    rw same (ap (moved_to a.first_row a.first_column)
    (row_put a.columns xs w (row - a.first_row) (column - a.first_column) (length w) (omega (arith, inside.left, inside.right))
    (omega (arith, within a row column (length w) inside)) refl)
    ∙ block_moved (rows_of a.columns xs) _ a.first_row a.first_column row column 1 (length w) inside.above inside.left)

-- samples written to a part of a row
pub row_written : (a : Area) (xs : List ℕ) (row column n : ℕ) → HasRow a row column n → length xs ≡ a.rows * a.columns
    → (w : List ℕ) → length w ≡ n
    → area_map a (written_over xs (put_mid (place_in a row column) (length w) xs w))
    ≡ with_block (area_map a xs) row column 1 n (λ _ j. get_or w j 0)
row_written a xs row column n inside whole w long =
    subst (λ n. HasRow a row column n → area_map a (written_over xs (put_mid (place_in a row column) (length w) xs w))
    ≡ with_block (area_map a xs) row column 1 n (λ _ j. get_or w j 0)) long (λ inside. row_over a xs w row column inside whole) inside

abbrev plane_by : Area → List ℕ → PlaneSamples
plane_by a xs = record { area = a; samples = xs }

-- what a plane is that lent a part of its list
pub row_lent : (a : Area) (xs : List ℕ) (p : PlaneSamples) (row column at len : ℕ) → plane_by a xs ≡ p → len ≡ length xs → at ≡ place_in a row column
    → (w : List ℕ) → plane_by a (take len (put_mid at (length w) xs w ++ drop (length (put_mid at (length w) xs w)) xs)) ≡ with_row p row column w
row_lent a xs p row column at len is long here w = rw (here, long, ← is) refl

either : (most : ℕ) (b : Bool) (x y : ℕ) → x ≤ most → y ≤ most → cond b x y ≤ most
either most true x y a b = a
either most false x y a b = b

-- samples that are small stay so
pub rows_small : (most width : ℕ) (xs : List ℕ) → ((k : ℕ) → get_or xs k 0 ≤ most) → IsAtMost most (rows_of width xs)
unfolding rows_of
rows_small most width xs small y x = either most (ltb x width) _ _ (small _) (omega arith)

pub with_block_small : (most : ℕ) (m : Map) (row column rows columns : ℕ) (b : Map) → IsAtMost most m → IsAtMost most b
    → IsAtMost most (with_block m row column rows columns b)
unfolding with_block
with_block_small most m row column rows columns b small also y x = either most _ _ _ (also _ _) (small y x)

pub zeros_small : (most : ℕ) (m : Map) → m ≡ (λ _ _. 0) → IsAtMost most m
zeros_small most m zeros y x = rw (ap (λ (m : Map). m y x) zeros) (omega arith)

no_more : (n : ℕ) → n ≤ 0 → n ≡ 0
no_more n low = omega arith

-- below its samples an area shows 0
pub below_zero : (a : Area) (xs : List ℕ) → length xs ≡ a.rows * a.columns → (row column : ℕ) → lower_end a ≤ row → area_map a xs row column ≡ 0
unfolding moved_to rows_of
below_zero a xs whole row column below =
    let y = row - a.first_row in
    let x = column - a.first_column in
    let past = get_or_past xs (y * a.columns + x) 0 (omega (arith, whole, mul-le-mul_right a.columns (rows_past a.first_row a.rows row below))) in
    no_more _ (either 0 (leb a.first_row row && leb a.first_column column) _ _ (either 0 (ltb x a.columns) _ _ (omega (arith, past)) (omega arith)) (omega arith))
  where
    rows_past : (first rows row : ℕ) → first + rows ≤ row → rows ≤ row - first
    rows_past first rows row below = omega arith

-- the same of samples that stand for numbers
pub row_values : {X : Type 0} (f : X → ℕ) (a : Area) (xs : List X) (row column n : ℕ) → HasRow a row column n → length xs ≡ a.rows * a.columns
    → map f (take (place_in a row column + n - place_in a row column) (drop (place_in a row column) xs)) ≡ row_of (area_map a (map f xs)) row column n
row_values f a xs row column n inside whole =
    let at : ℕ = place_in a row column in
    sym (take-map f (at + n - at) (drop at xs)) ∙ ap (take (at + n - at)) (sym (drop-map f at xs))
    ∙ row_is a (map f xs) row column n inside (length-map xs f ∙ whole)

pub row_value : {X : Type 0} (f : X → ℕ) (a : Area) (xs : List X) (row column n : ℕ) → HasRow a row column n → (j : ℕ) → j < n
    → get_or (map f (take (place_in a row column + n - place_in a row column) (drop (place_in a row column) xs))) j 0 ≡ area_map a (map f xs) row (column + j)
row_value f a xs row column n inside j low =
    let at : ℕ = place_in a row column in
    ap (λ (l : List ℕ). get_or l j 0) (sym (take-map f (at + n - at) (drop at xs)) ∙ ap (take (at + n - at)) (sym (drop-map f at xs)))
    ∙ row_samples a (map f xs) row column n inside j low

pub sample_value : {X : Type 0} (f : X → ℕ) (a : Area) (xs : List X) (d : X) (row column : ℕ) → HasRow a row column 1 → length xs ≡ a.rows * a.columns
    → f (get_or xs (place_in a row column) d) ≡ area_map a (map f xs) row column
sample_value f a xs d row column inside whole =
    let fits = row_fits a row column 1 (length xs) inside whole in
    sym (get_or-map f xs (place_in a row column) d 0 (omega arith))
    ∙ sample_is a (map f xs) row column inside.above inside.left (omega (arith, inside.right))

pub part_values : {X : Type 0} (f : X → ℕ) (a : Area) (xs ys : List X) (len row column rows columns down across : ℕ) (b : Map) → a.first_row ≤ row → a.first_column ≤ column
    → len ≡ length xs → length ys ≡ length xs → down ≡ min rows (lower_end a - row) → across ≡ min columns (right_end a - column)
    → rows_of a.columns (map f ys) ≡ with_block (rows_of a.columns (map f xs)) (row - a.first_row) (column - a.first_column) down across b
    → area_map a (map f (take len (ys ++ drop (length ys) xs))) ≡ with_part a (area_map a (map f xs)) row column rows columns b
part_values f a xs ys len row column rows columns down across b below right whole same d e is =
    rw (whole_loan len xs ys same whole, ← d, ← e)
    (ap (moved_to a.first_row a.first_column) is
    ∙ block_moved (rows_of a.columns (map f xs)) b a.first_row a.first_column row column down across below right)

pub cleared : {X : Type 0} (f : X → ℕ) (a : Area) (xs ys : List X) (len n : ℕ) → len ≡ length xs → length ys ≡ length xs → map f ys ≡ replicate n 0
    → area_map a (map f (take len (ys ++ drop (length ys) xs))) ≡ (λ _ _. 0)
cleared f a xs ys len n whole same zero =
    rw (whole_loan len xs ys same whole, zero) (zero_map a.first_row a.first_column a.columns n)

abbrev values_by : {X : Type 0} → (X → ℕ) → Area → List X → PlaneSamples
values_by f a xs = record { area = a; samples = map f xs }

loan_values : {X : Type 0} (f : X → ℕ) (xs ys : List X) (len : ℕ) → map f (take len (ys ++ drop (length ys) xs)) ≡ take len (map f ys ++ drop (length ys) (map f xs))
loan_values f xs ys len = sym (take-map f len (ys ++ drop (length ys) xs))
    ∙ ap (take len) (map-append f ys (drop (length ys) xs) ∙ ap (λ (l : List ℕ). map f ys ++ l) (sym (drop-map f (length ys) xs)))

-- what a plane is that lent a part of its list, by the numbers of its samples
pub values_lent : {X : Type 0} (f : X → ℕ) (a : Area) (xs : List X) (p : PlaneSamples) (row column at len : ℕ) → values_by f a xs ≡ p → len ≡ length xs → at ≡ place_in a row column
    → (w : List X) → values_by f a (take len (put_mid at (length w) xs w ++ drop (length (put_mid at (length w) xs w)) xs)) ≡ with_row p row column (map f w)
values_lent f a xs p row column at len is long here w =
    ap (λ (l : List ℕ). plane_by a l) (loan_values f xs (put_mid at (length w) xs w) len
    ∙ rw (← length-map (put_mid at (length w) xs w) f, map_mid f at (length w) xs w, long, ← length-map xs f, ← length-map w f) refl)
    ∙ row_lent a (map f xs) p row column at (length (map f xs)) is refl here (map f w)

---- Rows in one piece ----

abbrev AreIn : Area → ℕ → ℕ → Type 0
AreIn a row n = (r : ℕ) → r < n → HasRow a (row + r) 0 a.columns

last_below : (row n end : ℕ) → 0 < n → row + (n - 1) < end → row + n ≤ end
last_below row n end some low = omega (arith, some, low)

rows_within : (first row n rows : ℕ) → first ≤ row → row + n ≤ first + rows → (row - first) + n ≤ rows
rows_within first row n rows above below = omega (arith, above, below)

pub rows_fit : (a : Area) (row n long : ℕ) → 0 < n → AreIn a row n → long ≡ a.rows * a.columns → place_in a row 0 + n * a.columns ≤ long
rows_fit a row n long some inside whole =
    let top = inside 0 some in
    let last = inside (n - 1) (omega (arith, some)) in
    let above : a.first_row ≤ row = omega (arith, top.above) in
    let low = rows_within a.first_row row n a.rows above (last_below row n (lower_end a) some last.below) in
    omega (arith, whole, mul-le-mul_right a.columns low)

in_rows : (r c n w : ℕ) → r < n → c < w → r * w + c < n * w
in_rows r c n w high low = omega (arith, low, next w r n high)

pub rows_are : {X : Type 0} (f : X → ℕ) (a : Area) (xs : List X) (row n : ℕ) → IsArea a → 0 < n → AreIn a row n → length xs ≡ a.rows * a.columns
    → IsPiece (area_map a (map f xs)) a.columns row n (map f (take (place_in a row 0 + n * a.columns - place_in a row 0) (drop (place_in a row 0) xs))) a.columns
rows_are f a xs row n near some inside whole =
    let at : ℕ = place_in a row 0 in
    let w : ℕ = a.columns in
    let ys : List ℕ = map f xs in
    let top = inside 0 some in
    let part : map f (take (at + n * w - at) (drop at xs)) ≡ take (at + n * w - at) (drop at ys) =
    sym (take-map f (at + n * w - at) (drop at xs)) ∙ ap (take (at + n * w - at)) (sym (drop-map f at xs)) in
    let fits : at + n * w ≤ length ys = rows_fit a row n (length ys) some inside (length-map xs f ∙ whole) in
    let long = length_part at (n * w) ys fits in
    record {
      value = λ r c high low.
          let here : at + (r * w + c) ≡ place_in a row c + r * w = omega (arith, top.left) in
          ap (λ (l : List ℕ). get_or l (r * w + c) 0) part
          ∙ part_at at (n * w) ys (r * w + c) (in_rows r c n w high low)
          ∙ rw here (column_sample a ys row c r (omega (arith, top.above)) (omega (arith, top.left)) (omega (arith, low)));
      room = λ r high. rw (part, long) (next w r n high);
      near = omega (arith, near.wide);
    }

---- A part of rows ----

pub part_fits : (a : Area) (row column rows columns long : ℕ) → StartsIn a row column → 0 < rows → row + rows ≤ lower_end a → column + columns ≤ right_end a
    → long ≡ a.rows * a.columns → place_in a row column + ((rows - 1) * a.columns + columns) ≤ long
part_fits a row column rows columns long starts some below right whole =
    let high = next a.columns ((row - a.first_row) + (rows - 1)) a.rows (last_of a.first_row row rows a.rows starts.above some below) in
    omega (arith, whole, high, starts.left, right)
  where
    last_of : (first row rows all : ℕ) → first ≤ row → 0 < rows → row + rows ≤ first + all → (row - first) + (rows - 1) < all
    last_of first row rows all above some below = omega arith

in_part : (i j rows columns w : ℕ) → i < rows → j < columns → i * w + j < (rows - 1) * w + columns
in_part i j rows columns w high low = omega (arith, low, mul-le-mul_right w (before i rows high))
  where
    before : (i rows : ℕ) → i < rows → i ≤ rows - 1
    before i rows high = omega arith

pub part_sample : {X : Type 0} (f : X → ℕ) (a : Area) (xs : List X) (row column rows columns : ℕ) → StartsIn a row column → column + columns ≤ right_end a
    → (i j : ℕ) → i < rows → j < columns
    → get_or (map f (take (place_in a row column + ((rows - 1) * a.columns + columns) - place_in a row column) (drop (place_in a row column) xs))) (i * a.columns + j) 0
    ≡ area_map a (map f xs) (row + i) (column + j)
part_sample f a xs row column rows columns starts right i j high low =
    let at : ℕ = place_in a row column in
    let w : ℕ = a.columns in
    let n : ℕ = (rows - 1) * w + columns in
    let here : at + (i * w + j) ≡ place_in a row (column + j) + i * w = omega (arith, starts.left) in
    ap (λ (l : List ℕ). get_or l (i * w + j) 0) (sym (take-map f (at + n - at) (drop at xs)) ∙ ap (take (at + n - at)) (sym (drop-map f at xs)))
    ∙ (part_at at n (map f xs) (i * w + j) (in_part i j rows columns w high low)
    ∙ rw here (column_sample a (map f xs) row (column + j) i starts.above (omega (arith, starts.left)) (omega (arith, low, right))))
