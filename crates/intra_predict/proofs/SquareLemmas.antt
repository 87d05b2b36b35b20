-- Rows of a block put into a plane, one after another.
use Rattle.std.proofs.Common.{◌≡◌, ◌<◌, ◌≤◌, ◌+◌, ◌*◌, ◌-◌, ◌/◌, ◌%◌, ◌∙◌, ℕ, zero, suc, min, refl, sym, arith, ap, List, length, get_or, take, drop}
use Rattle.std.proofs.Math.Nat.{mod-add-div, mod-lt}
use Rattle.std.proofs.lemmas.Nat.{div_below}
use Rattle.std.proofs.lemmas.List.{get_or-take, get_or-drop, length-take, length-drop}
use Rattle.vp9_types.specs.Maps.{Map, Holds, IsAtMost, rows_of, with_block}
use Rattle.planes.specs.declared.area.Area.{Area}
use Rattle.planes.specs.Planes.{StartsIn, HasRow, lower_end, right_end}
use Rattle.intra_predict.specs.Steps.{with_square}
use Rattle.planes.proofs.RowLemmas.{add-sub_left, next, one_row_more, place, with_block_same}

-- row i of a block's rows
abbrev pub part : List ℕ → ℕ → ℕ → List ℕ
part block from n = take (from + n - from) (drop from block)

pub part_long : (block : List ℕ) (from n : ℕ) → from + n ≤ length block → length (part block from n) ≡ n
part_long block from n fits = rw add-sub_left (omega (arith, fits, length-take n (drop from block), length-drop from block))

pub row_ends : (i rows stride : ℕ) → i < rows → i * stride + stride ≤ rows * stride
row_ends i rows stride low = next stride i rows low

pub part_at : (block : List ℕ) (from n j : ℕ) → j < n → get_or (part block from n) j 0 ≡ get_or block (from + j) 0
part_at block from n j low = rw (add-sub_left, get_or-take, get_or-drop) refl

pub part_fits : (block : List ℕ) (most i rows stride n : ℕ) → i < rows → n ≤ stride → ((k : ℕ) → k < rows * stride → get_or block k 0 ≤ most)
    → (k : ℕ) → k < n → get_or (part block (i * stride) n) k 0 ≤ most
part_fits block most i rows stride n low narrow fits k left =
    rw (part_at block (i * stride) n k left) (fits (i * stride + k) (omega (arith, left, narrow, row_ends i rows stride low)))

pub more_rows : (m now : Map) (row column i n stride : ℕ) (block : List ℕ) → n ≤ stride
    → now ≡ with_block m row column i n (rows_of stride block)
    → with_block now (row + i) column 1 n (λ _ j. get_or (part block (i * stride) n) j 0) ≡ with_block m row column (i + 1) n (rows_of stride block)
more_rows m now row column i n stride block narrow so =
    let b = rows_of stride block in
    with_block_same now (row + i) column 1 n _ (λ _ j. b i j)
    (λ _ j _ left. part_at block (i * stride) n j left ∙ sym (place stride block i j (omega (arith, left, narrow))))
    ∙ (ap (λ (z : Map). with_block z (row + i) column 1 n (λ _ j. b i j)) so ∙ one_row_more m row column i n b)

pub row_is_in : (a b : Area) (row column i rows n : ℕ) → StartsIn a row column → b ≡ a → i < rows → row + rows ≤ lower_end a → column + n ≤ right_end a
    → HasRow b (row + i) column n
row_is_in a b row column i rows n inside same low below right = rw same (record {
  above = omega (arith, inside.above);
  below = omega (arith, low, below);
  left = inside.left;
  right = right;
})

-- the same of a part whose length the caller takes as it is
pub part_put : (m now new : Map) (row column i rows n stride : ℕ) (block : List ℕ) → i < rows → n ≤ stride → rows * stride ≤ length block
    → now ≡ with_block m row column i n (rows_of stride block)
    → new ≡ with_block now (row + i) column 1 (length (part block (i * stride) n)) (λ _ j. get_or (part block (i * stride) n) j 0)
    → new ≡ with_block m row column (i + 1) n (rows_of stride block)
part_put m now new row column i rows n stride block low narrow whole so is =
    let long = part_long block (i * stride) n (omega (arith, row_ends i rows stride low, whole, narrow)) in
    is ∙ (ap (λ (k : ℕ). with_block now (row + i) column 1 k (λ _ j. get_or (part block (i * stride) n) j 0)) long
    ∙ more_rows m now row column i n stride block narrow so)

-- a square that is inside as a whole
pub whole_square : (width height : ℕ) (m : Map) (row column size : ℕ) (b : Map) → size ≤ height - row → size ≤ width - column
    → with_block m row column size size b ≡ with_square width height m row column size b
whole_square width height m row column size b high wide =
    let down : size ≡ min size (height - row) = omega (arith, high) in
    let across : size ≡ min size (width - column) = omega (arith, wide) in
    λ t. with_block m row column (down t) (across t) b

-- no number of a square is greater than those of the map that it holds
pub square_fits : (size low most : ℕ) (block : List ℕ) (f : Map) → Holds block size f → IsAtMost low f → low ≤ most
    → (k : ℕ) → k < size * size → get_or block k 0 ≤ most
square_fits size low most block f holds small fits k inside =
    let some : 0 < size = side size inside in
    let column : k % size < size = mod-lt k some in
    let at : k / size * size + k % size ≡ k = omega (arith, mod-add-div k size) in
    let is : get_or block k 0 ≡ f (k / size) (k % size) = ap (λ (n : ℕ). get_or block n 0) (sym at) ∙ holds (k / size) (k % size) (div_below k size size some inside) column in
    omega (arith, is, small (k / size) (k % size), fits)
  where
    side : (size : ℕ) → k < size * size → 0 < size
    side zero low = omega (arith, low)
    side (suc n) low = omega arith
