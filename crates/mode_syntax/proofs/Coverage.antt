-- The blocks of a tile cover each of its places inside the frame once.
use Rattle.std.proofs.Common.{◌≡◌, ℕ, zero, suc, ◌+◌, ◌*◌, ◌^◌, ◌<◌, ◌≤◌, ◌&&◌, ◌++◌, ◌∙◌, Bool, true, false, List, inl, inr, refl, sym, ap, arith, cond, lit≤}
use Rattle.std.proofs.lemmas.List.Sums.{sum_by-append}
use Rattle.std.proofs.lemmas.Bool.{cases_lt, lt-ltb, le-ltb}
use Rattle.std.proofs.lemmas.Bool.Decides.{nat_tests}
use Rattle.std.proofs.Math.Nat.{pow-suc}
use Rattle.vp9_types.specs.Maps.{is_within}
use Rattle.vp9_types.specs.declared.block.BlockSize.{BlockSize}
use Rattle.vp9_types.specs.declared.block.Partition.{Partition}
use Rattle.vp9_types.specs.declared.block.Partition.TheVariants.{Whole, Horizontal, Vertical, Split}
use Rattle.block_geometry.specs.BlockSizes.{is_covered, width_8, height_8}
use Rattle.block_geometry.specs.SplitSquares.{part_size}
use Rattle.block_geometry.specs.declared.transform_blocks.FramePlaces.{FramePlaces}
use Rattle.mode_syntax.specs.TileSquares.{Leaf, Cut, whole, upper_and_lower, left_and_right, quarters, partition_of_cut, inside, one_leaf, leaves, tile_leaves, times_covered}
use Rattle.mode_syntax.specs.Superblocks.{superblocks_of}
use Rattle.mode_syntax.specs.declared.square_at.SquareAt.{SquareAt}
use Rattle.mode_syntax.proofs.TileLeaves.{row_leaves, rows_leaves, numbered, leaves_by_rows}

-- 1 where a place lies in a rectangle, which the definitions write so
abbrev pub box : ℕ → ℕ → ℕ → ℕ → ℕ → ℕ → ℕ
box r h c w y x = cond (is_within r h y && is_within c w x) 1 0

times_append : (xs ys : List Leaf) (y x : ℕ) → times_covered (xs ++ ys) y x ≡ times_covered xs y x + times_covered ys y x
times_append xs ys y x = sum_by-append (λ (b : Leaf). cond (is_covered b.row b.col b.size y x) 1 0) xs ys

counted_once : (k : ℕ) → 0 + k ≡ k
counted_once k = omega arith

one_covers : (r c : ℕ) (size : BlockSize) (h w y x : ℕ) → height_8 size ≡ h → width_8 size ≡ w → times_covered (one_leaf r c size) y x ≡ box r h c w y x
one_covers r c size h w y x high wide = counted_once (cond (is_covered r c size y x) 1 0) ∙ (ap (λ k. box r k c (width_8 size) y x) high ∙ ap (λ k. box r h c k y x) wide)

-- outside of a rectangle
past_columns : (r h c w y x : ℕ) → x < c → 0 ≡ box r h c w y x
past_columns r h c w y x low = grind (arith, nat_tests)

past_rows : (r h c w y x : ℕ) → y < r → 0 ≡ box r h c w y x
past_rows r h c w y x low = grind (arith, nat_tests)

inside_times : (frame : FramePlaces) (r h c w y x : ℕ) (blocks : List Leaf) → y < frame.rows → x < frame.cols
    → times_covered blocks y x ≡ box r h c w y x → times_covered (inside frame r c blocks) y x ≡ box r h c w y x
inside_times frame r h c w y x blocks low left is = elim (cases_lt r frame.rows) [
  | inl in_rows ↦ elim (cases_lt c frame.cols) [
    | inl in_cols ↦ rw (lt-ltb r frame.rows in_rows, lt-ltb c frame.cols in_cols) is
    | inr out ↦ rw (lt-ltb r frame.rows in_rows, le-ltb c frame.cols out) (past_columns r h c w y x (omega arith))
  ]
  | inr out ↦ rw (le-ltb r frame.rows out) (past_rows r h c w y x (omega arith))
]

-- a run of places and the run behind it
joined : (p m n k : ℕ) (b : Bool) → cond (is_within p m k && b) 1 0 + cond (is_within (p + m) n k && b) 1 0 ≡ cond (is_within p (m + n) k && b) 1 0
joined p m n k b = elim (cases_lt k p) [
  | inl before ↦ grind (arith, nat_tests)
  | inr from ↦ elim (cases_lt k (p + m)) [
    | inl first ↦ grind (arith, nat_tests)
    | inr past ↦ elim (cases_lt k (p + m + n)) [
      | inl second ↦ grind (arith, nat_tests)
      | inr behind ↦ grind (arith, nat_tests)
    ]
  ]
]

and_comm : (a b : Bool) → (a && b) ≡ (b && a)
and_comm true true = refl
and_comm true false = refl
and_comm false true = refl
and_comm false false = refl

turned : (r h c w y x : ℕ) → box r h c w y x ≡ cond (is_within c w x && is_within r h y) 1 0
turned r h c w y x = ap (λ b. cond b 1 0) (and_comm (is_within r h y) (is_within c w x))

below_each : (r h k c w y x : ℕ) → box r h c w y x + box (r + h) k c w y x ≡ box r (h + k) c w y x
below_each r h k c w y x = joined r h k y (is_within c w x)

beside_each : (r h c w v y x : ℕ) → box r h c w y x + box r h (c + w) v y x ≡ box r h c (w + v) y x
beside_each r h c w v y x =
    ap (λ n. n + box r h (c + w) v y x) (turned r h c w y x)
    ∙ ap (λ n. cond (is_within c w x && is_within r h y) 1 0 + n) (turned r h (c + w) v y x)
    ∙ joined c w v x (is_within r h y) ∙ sym (turned r h c (w + v) y x)

twice : (n : ℕ) → 2 ^ n + 2 ^ n ≡ 2 ^ suc n
twice n = omega (arith, pow-suc 2 n)

-- the sides of parts, in places of 8x8
pub small_part : (p : Partition) → (height_8 (part_size p 0) ≡ 2 ^ 0) × (width_8 (part_size p 0) ≡ 2 ^ 0)
small_part Whole = (refl, refl)
small_part Horizontal = (refl, refl)
small_part Vertical = (refl, refl)
small_part Split = (refl, refl)

pub whole_part : (n : ℕ) → suc n ≤ 3 → (height_8 (part_size Whole (suc n)) ≡ 2 ^ suc n) × (width_8 (part_size Whole (suc n)) ≡ 2 ^ suc n)
whole_part zero few = (refl, refl)
whole_part (suc zero) few = (refl, refl)
whole_part (suc (suc zero)) few = (refl, refl)
whole_part (suc (suc (suc n))) few = absurd (omega arith)

pub low_part : (n : ℕ) → suc n ≤ 3 → (height_8 (part_size Horizontal (suc n)) ≡ 2 ^ n) × (width_8 (part_size Horizontal (suc n)) ≡ 2 ^ suc n)
low_part zero few = (refl, refl)
low_part (suc zero) few = (refl, refl)
low_part (suc (suc zero)) few = (refl, refl)
low_part (suc (suc (suc n))) few = absurd (omega arith)

pub narrow_part : (n : ℕ) → suc n ≤ 3 → (height_8 (part_size Vertical (suc n)) ≡ 2 ^ suc n) × (width_8 (part_size Vertical (suc n)) ≡ 2 ^ n)
narrow_part zero few = (refl, refl)
narrow_part (suc zero) few = (refl, refl)
narrow_part (suc (suc zero)) few = (refl, refl)
narrow_part (suc (suc (suc n))) few = absurd (omega arith)

-- two lists that cover two rectangles
both : (xs ys : List Leaf) (y x m n : ℕ) → times_covered xs y x ≡ m → times_covered ys y x ≡ n → times_covered (xs ++ ys) y x ≡ m + n
both xs ys y x m n a b = times_append xs ys y x ∙ ap (λ k. k + times_covered ys y x) a ∙ ap (λ k. m + k) b

four : (ta tb td te upper lower all : ℕ) → ta + tb ≡ upper → td + te ≡ lower → upper + lower ≡ all → ta + tb + td + te ≡ all
four ta tb td te upper lower all a b d = omega arith

-- a square's blocks cover each of its places inside the frame once, and no other place of the frame
pub square_covered : (frame : FramePlaces) (n r c : ℕ) (cut : Cut) (y x : ℕ) → n ≤ 3 → y < frame.rows → x < frame.cols
    → times_covered (leaves frame n r c cut) y x ≡ box r (2 ^ n) c (2 ^ n) y x
square_covered frame zero r c cut y x few low left =
    let p = partition_of_cut cut in let s = small_part p in
    inside_times frame r 1 c 1 y x (one_leaf r c (part_size p 0)) low left (one_covers r c (part_size p 0) 1 1 y x s.0 s.1)
square_covered frame (suc n) r c whole y x few low left =
    let s = whole_part n few in
    inside_times frame r (2 ^ suc n) c (2 ^ suc n) y x _ low left (one_covers r c (part_size Whole (suc n)) (2 ^ suc n) (2 ^ suc n) y x s.0 s.1)
square_covered frame (suc n) r c upper_and_lower y x few low left =
    let s = low_part n few in
    let size = part_size Horizontal (suc n) in
    inside_times frame r (2 ^ suc n) c (2 ^ suc n) y x _ low left
    (both (one_leaf r c size) (inside frame (r + 2 ^ n) c (one_leaf (r + 2 ^ n) c size)) y x _ _
    (one_covers r c size (2 ^ n) (2 ^ suc n) y x s.0 s.1)
    (inside_times frame (r + 2 ^ n) (2 ^ n) c (2 ^ suc n) y x _ low left (one_covers (r + 2 ^ n) c size (2 ^ n) (2 ^ suc n) y x s.0 s.1))
    ∙ below_each r (2 ^ n) (2 ^ n) c (2 ^ suc n) y x ∙ ap (λ h. box r h c (2 ^ suc n) y x) (twice n))
square_covered frame (suc n) r c left_and_right y x few low left =
    let s = narrow_part n few in
    let size = part_size Vertical (suc n) in
    inside_times frame r (2 ^ suc n) c (2 ^ suc n) y x _ low left
    (both (one_leaf r c size) (inside frame r (c + 2 ^ n) (one_leaf r (c + 2 ^ n) size)) y x _ _
    (one_covers r c size (2 ^ suc n) (2 ^ n) y x s.0 s.1)
    (inside_times frame r (2 ^ suc n) (c + 2 ^ n) (2 ^ n) y x _ low left (one_covers r (c + 2 ^ n) size (2 ^ suc n) (2 ^ n) y x s.0 s.1))
    ∙ beside_each r (2 ^ suc n) c (2 ^ n) (2 ^ n) y x ∙ ap (λ w. box r (2 ^ suc n) c w y x) (twice n))
square_covered frame (suc n) r c (quarters a b d e) y x few low left =
    let h = 2 ^ n in
    let la = leaves frame n r c a in
    let lb = leaves frame n r (c + h) b in
    let ld = leaves frame n (r + h) c d in
    let le = leaves frame n (r + h) (c + h) e in
    inside_times frame r (2 ^ suc n) c (2 ^ suc n) y x _ low left
    (both (la ++ lb ++ ld) le y x _ _
    (both (la ++ lb) ld y x _ _
    (both la lb y x _ _ (square_covered frame n r c a y x (omega arith) low left) (square_covered frame n r (c + h) b y x (omega arith) low left))
    (square_covered frame n (r + h) c d y x (omega arith) low left))
    (square_covered frame n (r + h) (c + h) e y x (omega arith) low left)
    ∙ four (box r h c h y x) (box r h (c + h) h y x) (box (r + h) h c h y x) (box (r + h) h (c + h) h y x)
    (box r h c (h + h) y x) (box (r + h) h c (h + h) y x) (box r (h + h) c (h + h) y x)
    (beside_each r h c h h y x) (beside_each (r + h) h c h h y x) (below_each r h h c (h + h) y x)
    ∙ ap (λ k. box r k c k y x) (twice n))

nothing_covered : (r c y x : ℕ) → 0 ≡ box r 8 c 0 y x
nothing_covered r c y x = grind (arith, nat_tests)

no_rows_covered : (r c w y x : ℕ) → 0 ≡ box r 0 c w y x
no_rows_covered r c w y x = grind (arith, nat_tests)

next_column : (c j n : ℕ) → c + 8 * (j + 1) ≡ c + 8 * j + 8
next_column c j n = omega arith

one_wider : (n : ℕ) → 8 + 8 * n ≡ 8 * suc n
one_wider n = omega arith

-- those of a row of superblocks
row_covered : (frame : FramePlaces) (r c : ℕ) (cuts : ℕ → Cut) (j n y x : ℕ) → y < frame.rows → x < frame.cols
    → times_covered (row_leaves frame r c cuts j n) y x ≡ box r 8 (c + 8 * j) (8 * n) y x
row_covered frame r c cuts j zero y x low left = nothing_covered r (c + 8 * j) y x
row_covered frame r c cuts j (suc n) y x low left =
    both (leaves frame 3 r (c + 8 * j) (cuts j)) (row_leaves frame r c cuts (j + 1) n) y x _ _
    (square_covered frame 3 r (c + 8 * j) (cuts j) y x (lit≤ tt) low left)
    (row_covered frame r c cuts (j + 1) n y x low left ∙ ap (λ k. box r 8 k (8 * n) y x) (next_column c j n))
    ∙ beside_each r 8 (c + 8 * j) 8 (8 * n) y x ∙ ap (λ w. box r 8 (c + 8 * j) w y x) (one_wider n)

-- those of all rows
rows_covered : (frame : FramePlaces) (r c : ℕ) (cuts : ℕ → ℕ → Cut) (columns i n y x : ℕ) → y < frame.rows → x < frame.cols
    → times_covered (rows_leaves frame r c cuts columns i n) y x ≡ box (r + 8 * i) (8 * n) (c + 8 * 0) (8 * columns) y x
rows_covered frame r c cuts columns i zero y x low left = no_rows_covered (r + 8 * i) (c + 8 * 0) (8 * columns) y x
rows_covered frame r c cuts columns i (suc n) y x low left =
    both (row_leaves frame (r + 8 * i) c (cuts i) 0 columns) (rows_leaves frame r c cuts columns (i + 1) n) y x _ _
    (row_covered frame (r + 8 * i) c (cuts i) 0 columns y x low left)
    (rows_covered frame r c cuts columns (i + 1) n y x low left ∙ ap (λ k. box k (8 * n) (c + 8 * 0) (8 * columns) y x) (next_column r i n))
    ∙ below_each (r + 8 * i) 8 (8 * n) (c + 8 * 0) (8 * columns) y x ∙ ap (λ h. box (r + 8 * i) h (c + 8 * 0) (8 * columns) y x) (one_wider n)

from_start : (r : ℕ) → r + 8 * 0 ≡ r
from_start r = omega arith

within_box : (r h c w y x : ℕ) → r ≤ y → y < r + h → c ≤ x → x < c + w → box r h c w y x ≡ 1
within_box r h c w y x a b d e = grind (arith, nat_tests)

-- each place of a tile inside the frame is covered once
pub tile_covered : (frame : FramePlaces) (first : SquareAt) (rows columns : ℕ) (cuts : SquareAt → Cut) (y x : ℕ)
    → first.row ≤ y → y < first.row + 8 * rows → first.col ≤ x → x < first.col + 8 * columns → y < frame.rows → x < frame.cols
    → times_covered (tile_leaves frame cuts (superblocks_of first rows columns)) y x ≡ 1
tile_covered frame first rows columns cuts y x a b d e low left =
    let r = first.row in
    let c = first.col in
    ap (λ blocks. times_covered blocks y x) (leaves_by_rows frame first cuts rows columns)
    ∙ (rows_covered frame r c (numbered first cuts) columns 0 rows y x low left
    ∙ ap (λ k. box k (8 * rows) (c + 8 * 0) (8 * columns) y x) (from_start r)
    ∙ ap (λ k. box r (8 * rows) k (8 * columns) y x) (from_start c)
    ∙ within_box r (8 * rows) c (8 * columns) y x a b d e)
