-- Squares of eight rows of eight samples, loaded and stored.
use Rattle.std.proofs.Common.{◌≡◌, ◌<◌, ◌≤◌, ◌+◌, ◌*◌, ◌-◌, ℕ, zero, suc, inl, inr, refl, sym, ◌∙◌, arith, ap, List, length, get_or, take, drop, ◌++◌, replicate, slice_index, map}
use Rattle.std.proofs.lemmas.Bool.{cases_lt}
use Rattle.std.proofs.lemmas.Bool.Decides.{nat_tests}
use Rattle.std.proofs.lemmas.List.{get_or_append_left, get_or-append_right, get_or-drop, get_or-replicate, get_or_past, get_or-map, length-map, length-take, length-drop, get_or-take, take-map, drop-map}
use Rattle.std.proofs.lemmas.Simd.{put_chunk_whole}
use lib.Lanes.{put_chunk}
use mir.Syntax.{w8, w16, cast, unsigned}
use borrow.Rule.Simd.Lanes.{act1}
use borrow.Table.Row.{s_int}
use borrow.Rule.Slice.PartMut.{put_mid}
use Rattle.vp9_types.specs.Maps.{Map, rows_of, with_block}
use Rattle.planes.specs.declared.area.Area.{Area}
use Rattle.planes.specs.Planes.{PlaneSamples, plane_map, moved_to, right_end, with_part}
use Rattle.line_filter.specs.declared.lanes.Lanes.{Lanes}
use Rattle.line_filter.specs.Code.{AreLanes, AreLanesAtMost, IsRowAtMost, lane_at}
use Rattle.planes.proofs.RowLemmas.{with_block_same, one_row_more, add-sub_left, row_put}
use Rattle.planes.proofs.PlaneLemmas.{area_map}

-- right of its samples a plane shows 0
right_zero : (a : Area) (xs : List ℕ) (row column : ℕ) → right_end a ≤ column → area_map a xs row column ≡ 0
unfolding moved_to rows_of
right_zero a xs row column past = grind (arith, nat_tests)

eight_zeros : (j : ℕ) → ◌≡◌ {A = ℕ} (get_or (replicate 8 0) j 0) 0
eight_zeros j = elim (cases_lt j 8) [
  | inl low ↦ get_or-replicate 8 j 0 0 low
  | inr past ↦ get_or_past (replicate 8 0) j 0 past
]

-- what there is of a row, and zeros
pub part_of_eight : (p : PlaneSamples) (row column count : ℕ) (now : List ℕ) → ◌≡◌ {A = ℕ} (length now) count → count ≤ 8
    → ((j : ℕ) → j < count → slice_index now j ≡ plane_map p row (column + j)) → (count < 8 → right_end p.area ≤ column + count)
    → (j : ℕ) → j < 8 → ◌≡◌ {A = ℕ} (slice_index (now ++ drop count (replicate 8 0)) j) (plane_map p row (column + j))
part_of_eight p row column count now long few is past j low = elim (cases_lt j count) [
  | inl there ↦ get_or_append_left now (drop count (replicate 8 0)) 0 j (omega (arith, long)) ∙ is j there
  | inr gone ↦ get_or-append_right now (drop count (replicate 8 0)) count j 0 long gone ∙ (get_or-drop count (replicate 8 0) (j - count) 0 ∙ eight_zeros _)
      ∙ sym (right_zero p.area p.samples row (column + j) (omega (arith, past (omega arith))))
]

-- a row of a square is stored
pub row_set : (i : ℕ) (block now : List ℕ) → i < 8 → length block ≡ 64 → length now ≡ 8
    → rows_of 8 (put_mid (i * 8) (i * 8 + 8 - i * 8) block now) ≡ with_block (rows_of 8 block) i 0 1 8 (λ _ j. slice_index now j)
row_set i block now low long eight =
    let at : i * 8 ≡ i * 8 + 0 = omega arith in
    rw (add-sub_left, at) (row_put 8 block now i 0 8 (omega arith) (omega (arith, long)) eight)

-- lanes as bytes
abbrev pub byte_of : ℕ → ℕ
byte_of = act1 (cast unsigned unsigned w8) (s_int w16) (s_int w8)

byte_same : (n : ℕ) → n ≤ 255 → byte_of n ≡ n
byte_same n small = omega (arith, small)

-- a row of a square is stored in bytes
pub bytes_set : (i : ℕ) (block row : List ℕ) → i < 8 → length block ≡ 64 → length row ≡ 8 → ((j : ℕ) → j < 8 → slice_index row j ≤ 255)
    → rows_of 8 (put_mid (i * 8) (i * 8 + 8 - i * 8) block (put_chunk 0 (take (i * 8 + 8 - i * 8) (drop (i * 8) block)) (map byte_of row)))
    ≡ with_block (rows_of 8 block) i 0 1 8 (λ _ j. slice_index row j)
bytes_set i block row low long eight small =
    let bytes : List ℕ = map byte_of row in
    let all : length bytes ≡ 8 = length-map row byte_of ∙ eight in
    let part : length (take (i * 8 + 8 - i * 8) (drop (i * 8) block)) ≡ length bytes =
    omega (arith, low, long, all, length-take (i * 8 + 8 - i * 8) (drop (i * 8) block), length-drop (i * 8) block) in
    ap (λ (w : List ℕ). rows_of 8 (put_mid (i * 8) (i * 8 + 8 - i * 8) block w)) (put_chunk_whole (take (i * 8 + 8 - i * 8) (drop (i * 8) block)) bytes part)
    ∙ (row_set i block bytes low long all
    ∙ with_block_same (rows_of 8 block) i 0 1 8 _ _ (λ _ j _ lt. get_or-map byte_of row j 0 0 (omega (arith, lt, eight)) ∙ byte_same (slice_index row j) (small j lt)))

-- one row more is stored
pub stored : (m old new : Map) (i : ℕ) (row : List ℕ) (f : Map) → old ≡ with_block m 0 0 i 8 f
    → new ≡ with_block old i 0 1 8 (λ _ j. slice_index row j)
    → ((j : ℕ) → j < 8 → slice_index row j ≡ f i j) → new ≡ with_block m 0 0 (i + 1) 8 f
stored m old new i row f so is holds =
    let at : i ≡ 0 + i = omega arith in
    is ∙ rw so (with_block_same (with_block m 0 0 i 8 f) i 0 1 8 _ _ (λ k j _ low. holds j low) ∙ (ap (λ (k : ℕ). with_block (with_block m 0 0 i 8 f) k 0 1 8 (λ _ j. f i j)) at ∙ one_row_more m 0 0 i 8 f))

inside : (m f : Map) (i j : ℕ) → i < 8 → j < 8 → with_block m 0 0 8 8 f i j ≡ f i j
unfolding with_block
inside m f i j low narrow = grind (arith, nat_tests)

pub all_stored : (new m f : Map) → new ≡ with_block m 0 0 8 8 f → (i j : ℕ) → i < 8 → j < 8 → new i j ≡ f i j
all_stored new m f is i j low narrow = ap (λ (g : Map). g i j) is ∙ inside m f i j low narrow

-- a square of samples may stand for what it holds
pub part_same : (a : Area) (m : Map) (row column : ℕ) (b f : Map) → ((i j : ℕ) → i < 8 → j < 8 → b i j ≡ f i j)
    → with_part a m row column 8 8 b ≡ with_part a m row column 8 8 f
part_same a m row column b f same = with_block_same m row column _ _ b f (λ i j low narrow. same i j (omega arith) (omega arith))

-- lanes row by row
pub lane_is : (x : Lanes) (f : Map) → AreLanes x f → (i j : ℕ) → i < 8 → j < 8 → slice_index (lane_at x i) j ≡ f i j
unfolding lane_at
lane_is x f so zero j low narrow = so.r0 j narrow
lane_is x f so (suc zero) j low narrow = so.r1 j narrow
lane_is x f so (suc (suc zero)) j low narrow = so.r2 j narrow
lane_is x f so (suc (suc (suc zero))) j low narrow = so.r3 j narrow
lane_is x f so (suc (suc (suc (suc zero)))) j low narrow = so.r4 j narrow
lane_is x f so (suc (suc (suc (suc (suc zero))))) j low narrow = so.r5 j narrow
lane_is x f so (suc (suc (suc (suc (suc (suc zero)))))) j low narrow = so.r6 j narrow
lane_is x f so (suc (suc (suc (suc (suc (suc (suc zero))))))) j low narrow = so.r7 j narrow
lane_is x f so (suc (suc (suc (suc (suc (suc (suc (suc i)))))))) j low narrow = absurd (omega arith)

pub lane_small : (most : ℕ) (x : Lanes) → AreLanesAtMost most x → (i : ℕ) → i < 8 → IsRowAtMost most (lane_at x i)
unfolding lane_at
lane_small most x so zero low = so.r0
lane_small most x so (suc zero) low = so.r1
lane_small most x so (suc (suc zero)) low = so.r2
lane_small most x so (suc (suc (suc zero))) low = so.r3
lane_small most x so (suc (suc (suc (suc zero)))) low = so.r4
lane_small most x so (suc (suc (suc (suc (suc zero))))) low = so.r5
lane_small most x so (suc (suc (suc (suc (suc (suc zero)))))) low = so.r6
lane_small most x so (suc (suc (suc (suc (suc (suc (suc zero))))))) low = so.r7
lane_small most x so (suc (suc (suc (suc (suc (suc (suc (suc i)))))))) low = absurd (omega arith)

-- eight samples are written as bytes
pub bytes_written : (to row : List ℕ) → length to ≡ 8 → length row ≡ 8 → IsRowAtMost 255 row → (j : ℕ) → j < 8 → slice_index (put_chunk 0 to (map byte_of row)) j ≡ slice_index row j
bytes_written to row long eight small j low =
    let bytes : List ℕ = map byte_of row in
    let same : length to ≡ length bytes = long ∙ sym (length-map row byte_of ∙ eight) in
    ap (λ (w : List ℕ). slice_index w j) (put_chunk_whole to bytes same)
    ∙ (get_or-map byte_of row j 0 0 (omega (arith, low, eight)) ∙ byte_same (slice_index row j) (small j low))

---- Squares of one slice ----

pub eight_at : {X : Type 0} (f : X → ℕ) (xs : List X) (at j : ℕ) → j < 8
    → ◌≡◌ {A = ℕ} (slice_index (map f (take (at + 8 - at) (drop at xs))) j) (slice_index (map f xs) (at + j))
eight_at f xs at j low =
    ap (λ (l : List ℕ). get_or l j 0) (sym (take-map f (at + 8 - at) (drop at xs)) ∙ ap (take (at + 8 - at)) (sym (drop-map f at xs)))
    ∙ rw (add-sub_left, get_or-take, get_or-drop) refl

-- a square of a part of a plane
pub square_of : (x : Lanes) (xs : List ℕ) (w at : ℕ) (f : Map) → AreLanes x (λ i j. slice_index xs (i * w + (at + j)))
    → ((i j : ℕ) → i < 8 → j < 8 → slice_index xs (i * w + (at + j)) ≡ f i j) → AreLanes x f
square_of x xs w at f so is = record {
  r0 = λ j low. so.r0 j low ∙ is 0 j (omega arith) low;
  r1 = λ j low. so.r1 j low ∙ is 1 j (omega arith) low;
  r2 = λ j low. so.r2 j low ∙ is 2 j (omega arith) low;
  r3 = λ j low. so.r3 j low ∙ is 3 j (omega arith) low;
  r4 = λ j low. so.r4 j low ∙ is 4 j (omega arith) low;
  r5 = λ j low. so.r5 j low ∙ is 5 j (omega arith) low;
  r6 = λ j low. so.r6 j low ∙ is 6 j (omega arith) low;
  r7 = λ j low. so.r7 j low ∙ is 7 j (omega arith) low;
}

-- the samples of a plane from a place on, row after row
abbrev pub ArePart : List ℕ → ℕ → Map → ℕ → ℕ → ℕ → ℕ → Type 0
ArePart xs w m row column rows columns = (i j : ℕ) → i < rows → j < columns → slice_index xs (i * w + j) ≡ m (row + i) (column + j)

pub square_first : (x : Lanes) (xs : List ℕ) (w : ℕ) (m : Map) (row column rows columns : ℕ) → 8 ≤ rows → 8 ≤ columns → ArePart xs w m row column rows columns
    → AreLanes x (λ i j. slice_index xs (i * w + (0 + j))) → AreLanes x (λ i j. m (row + i) (column + j))
square_first x xs w m row column rows columns high wide part so = square_of x xs w 0 _ so (λ i j low narrow.
    ap (λ (n : ℕ). slice_index xs (i * w + n)) (none_more j) ∙ part i j (omega (arith, low, high)) (omega (arith, narrow, wide)))
  where
    none_more : (j : ℕ) → 0 + j ≡ j
    none_more j = omega arith

pub square_right : (x : Lanes) (xs : List ℕ) (w : ℕ) (m : Map) (row column : ℕ) → 8 ≤ column → ArePart xs w m row (column - 8) 8 16
    → AreLanes x (λ i j. slice_index xs (i * w + (8 + j))) → AreLanes x (λ i j. m (row + i) (column + j))
square_right x xs w m row column far part so =
    square_of x xs w 8 _ so (λ i j low narrow. part i (8 + j) low (omega (arith, narrow)) ∙ ap (m (row + i)) (omega (arith, far)))

pub square_below : (x : Lanes) (xs : List ℕ) (w : ℕ) (m : Map) (row column : ℕ) → 8 ≤ row → ArePart xs w m (row - 8) column 16 8
    → AreLanes x (λ i j. slice_index xs (i * w + (8 * w + j))) → AreLanes x (λ i j. m (row + i) (column + j))
square_below x xs w m row column far part so =
    square_of x xs w (8 * w) _ so (λ i j low narrow.
    ap (λ (n : ℕ). slice_index xs n) (lower i j) ∙ (part (8 + i) j (omega (arith, low)) narrow ∙ ap (λ (y : ℕ). m y (column + j)) (omega (arith, far))))
  where
    lower : (i j : ℕ) → i * w + (8 * w + j) ≡ (8 + i) * w + j
    lower i j = omega arith
