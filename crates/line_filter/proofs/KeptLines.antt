-- Lines that the filters leave, or that only those of four samples on each side change.
use Rattle.std.proofs.Common.{◌≡◌, ◌<◌, ◌≤◌, ◌+◌, ◌-◌, ◌&&◌, ◌||◌, ℕ, zero, suc, Bool, true, false, inl, inr, refl, sym, ◌∙◌, arith, ap, subst, length, min, cond}
use Rattle.std.specs.Prelude.{not}
use Rattle.std.proofs.Math.Path.{fun_ext}
use Rattle.std.proofs.lemmas.Bool.{cases_lt, lt-ltb, le-ltb}
use Rattle.std.proofs.lemmas.Bool.Decides.{nat_tests}
use Rattle.std.proofs.lemmas.List.{get_or_append_left, get_or-append_right}
use Rattle.std.proofs.lemmas.List.FromFn.{length-map-range_with_len, get_or-map-range_with_len}
use Rattle.vp9_types.specs.Maps.{Map, with_block}
use Rattle.planes.specs.declared.area.Area.{Area}
use Rattle.planes.specs.Planes.{lower_end, right_end, with_part}
use Rattle.line_filter.specs.declared.edge.FilterWidth.TheVariants.{Sixteen}
use Rattle.line_filter.specs.declared.edge.Limits.{Limits}
use Rattle.line_filter.specs.declared.far.Far.{Far}
use Rattle.line_filter.specs.declared.lanes.Lanes.{Lanes}
use Rattle.line_filter.specs.declared.near.Near.{Near}
use Rattle.line_filter.specs.Lines.{Line, p, q, filter_mask, flat_mask, flat_mask2, narrow_filter, wide_filter, filtered_near, filtered_line}
use Rattle.line_filter.specs.FilteredEdges.{line_at, line_down, line_along, nth_of_line}
use Rattle.line_filter.specs.Code.{AreLanes, is_flat_far, line_of, wide_line_of, near_between, far_between, line_between, between, down_filtered, along_filtered}
use Rattle.line_filter.proofs.FarLines.{extended, near_same, calm_same, flat_same}
use Rattle.line_filter.proofs.LineBlocks.{wide_line}

-- none of the lines has an edge that a mask counts
pub none_more : (P : ℕ → Bool) (old now : Bool) (n : ℕ) → now ≡ P n → (old ≡ false → (k : ℕ) → k < n → P k ≡ false) → (old || now) ≡ false → (k : ℕ) → k < n + 1 → P k ≡ false
none_more P false now n is so none k low = elim (cases_lt k n) [
  | inl less ↦ so refl k less
  | inr more ↦ let same : k ≡ n = omega (arith, low, more) in rw same (sym is ∙ none)
]
none_more P true now n is so none k low = let no : ⊥ = cc in absurd no

-- the masks of a column
pub calm_at : (l : Limits) (a b : Lanes) (j : ℕ) (x : Near) (y : Far) (calm : Bool) → x ≡ near_between a b j → y ≡ far_between a b j → calm ≡ filter_mask l (line_of x)
    → calm ≡ filter_mask l (line_between a b j)
calm_at l a b j x y calm near far is = is ∙ (sym (calm_same l x y) ∙ rw (near, far) refl)

pub flat_at : (l : Limits) (a b : Lanes) (j : ℕ) (x : Near) (y : Far) (calm flat flat2 : Bool) → x ≡ near_between a b j → y ≡ far_between a b j → calm ≡ filter_mask l (line_of x)
    → flat ≡ flat_mask l (line_of x) → flat2 ≡ flat_mask2 l (wide_line_of x y) → (calm && (flat && flat2)) ≡ is_flat_far l (line_between a b j)
flat_at l a b j x y calm flat flat2 near far calms flats also =
    let first : calm ≡ filter_mask l (wide_line_of x y) = calms ∙ sym (calm_same l x y) in
    let second : flat ≡ flat_mask l (wide_line_of x y) = flats ∙ sym (flat_same l x y) in
    rw (first, second, also) (ap (is_flat_far l) (rw (near, far) refl))

-- a line of samples in order
upper : (n at i : ℕ) (s : ℕ → ℕ) → n ≤ at → i < n → p (line_at n s at) (n - 1 - i) ≡ s (at - n + i)
unfolding line_at
upper n at i s inside low =
    get_or-map-range_with_len (λ (k : ℕ). s (at - 1 - k)) 0 n (n - 1 - i) (n - 1 - i) 0 (omega (arith, low)) (omega arith)
    ∙ ap s (omega (arith, inside, low))

lower : (n at i : ℕ) (s : ℕ → ℕ) → n ≤ at → n ≤ i → i < n + n → q (line_at n s at) (i - n) ≡ s (at - n + i)
unfolding line_at
lower n at i s inside from low =
    get_or-map-range_with_len (λ (k : ℕ). s (at + k)) 0 n (i - n) (i - n) 0 (omega (arith, from, low)) (omega arith)
    ∙ ap s (omega (arith, inside, from))

pub line_is : (n at i : ℕ) (s : ℕ → ℕ) → n ≤ at → i < n + n → nth_of_line n (line_at n s at) i ≡ s (at - n + i)
line_is n at i s inside low = elim (cases_lt i n) [
  | inl less ↦ rw (lt-ltb i n less) (upper n at i s inside less)
  | inr more ↦ rw (le-ltb i n more) (lower n at i s inside more low)
]

-- what the filters do without a mask
pub left_alone : (l : Limits) (x : Line) → filter_mask l x ≡ false → filtered_line l Sixteen x ≡ x
unfolding filtered_line filtered_near
left_alone l x none = rw none refl

pub near_alone : (l : Limits) (x : Line) → is_flat_far l x ≡ false → filtered_line l Sixteen x ≡ filtered_near l true x
unfolding filtered_line
near_alone l x none = rw none refl

-- the samples on each side of a place of samples
abbrev near_of : (ℕ → ℕ) → ℕ → Near
near_of s at = record {
  p3 = s (at - 1 - 3);
  p2 = s (at - 1 - 2);
  p1 = s (at - 1 - 1);
  p0 = s (at - 1 - 0);
  q0 = s (at + 0);
  q1 = s (at + 1);
  q2 = s (at + 2);
  q3 = s (at + 3);
}

abbrev far_of : (ℕ → ℕ) → ℕ → Far
far_of s at = record {
  p7 = s (at - 1 - 7);
  p6 = s (at - 1 - 6);
  p5 = s (at - 1 - 5);
  p4 = s (at - 1 - 4);
  q4 = s (at + 4);
  q5 = s (at + 5);
  q6 = s (at + 6);
  q7 = s (at + 7);
}

near_extended : (l : Limits) (s : ℕ → ℕ) (at : ℕ) → filtered_near l true (line_at 8 s at) ≡ extended (filtered_near l true (line_at 4 s at)) (far_of s at)
unfolding line_at
near_extended l s at = near_same l true (near_of s at) (far_of s at)

-- four samples on each side stay four
record IsFour (x : Line) : Type 0 where
  p : length x.p ≡ 4
  q : length x.q ≡ 4

four_if : (t : Bool) (x y : Line) → IsFour x → IsFour y → IsFour (cond t x y)
four_if true x y a b = a
four_if false x y a b = b

four_at : (s : ℕ → ℕ) (at : ℕ) → IsFour (line_at 4 s at)
unfolding line_at
four_at s at = record { p = refl; q = refl }

four_wide : (x : Line) → IsFour x → IsFour (wide_filter 3 x)
unfolding wide_filter
four_wide x so = record { p = length-map-range_with_len _ 0 (length x.p) ∙ so.p; q = length-map-range_with_len _ 0 (length x.q) ∙ so.q }

four_narrow : (l : Limits) (x : Line) → IsFour x → IsFour (narrow_filter l x)
unfolding narrow_filter
four_narrow l x so = record { p = length-map-range_with_len _ 0 (length x.p) ∙ so.p; q = length-map-range_with_len _ 0 (length x.q) ∙ so.q }

four_near : (l : Limits) (x : Line) → IsFour x → IsFour (filtered_near l true x)
unfolding filtered_near
four_near l x so = four_if (not (filter_mask l x)) _ _ so (four_if (flat_mask l x && true) _ _ (four_wide x so) (four_narrow l x so))

-- in a line that is extended they are in the middle
middle_is : (z : Line) (y : Far) → IsFour z → (i : ℕ) → i < 8 → nth_of_line 8 (extended z y) (4 + i) ≡ nth_of_line 4 z i
middle_is z y so zero low = get_or_append_left z.p _ 0 3 (omega (arith, so.p))
middle_is z y so (suc zero) low = get_or_append_left z.p _ 0 2 (omega (arith, so.p))
middle_is z y so (suc (suc zero)) low = get_or_append_left z.p _ 0 1 (omega (arith, so.p))
middle_is z y so (suc (suc (suc zero))) low = get_or_append_left z.p _ 0 0 (omega (arith, so.p))
middle_is z y so (suc (suc (suc (suc zero)))) low = get_or_append_left z.q _ 0 0 (omega (arith, so.q))
middle_is z y so (suc (suc (suc (suc (suc zero))))) low = get_or_append_left z.q _ 0 1 (omega (arith, so.q))
middle_is z y so (suc (suc (suc (suc (suc (suc zero)))))) low = get_or_append_left z.q _ 0 2 (omega (arith, so.q))
middle_is z y so (suc (suc (suc (suc (suc (suc (suc zero))))))) low = get_or_append_left z.q _ 0 3 (omega (arith, so.q))
middle_is z y so (suc (suc (suc (suc (suc (suc (suc (suc i)))))))) low = absurd (omega arith)

first_is : (z : Line) (s : ℕ → ℕ) (at : ℕ) → 8 ≤ at → IsFour z → (i : ℕ) → i < 4 → nth_of_line 8 (extended z (far_of s at)) i ≡ s (at - 8 + i)
first_is z s at inside so zero low = get_or-append_right z.p _ 4 7 0 so.p (omega arith) ∙ ap s (omega (arith, inside))
first_is z s at inside so (suc zero) low = get_or-append_right z.p _ 4 6 0 so.p (omega arith) ∙ ap s (omega (arith, inside))
first_is z s at inside so (suc (suc zero)) low = get_or-append_right z.p _ 4 5 0 so.p (omega arith) ∙ ap s (omega (arith, inside))
first_is z s at inside so (suc (suc (suc zero))) low = get_or-append_right z.p _ 4 4 0 so.p (omega arith) ∙ ap s (omega (arith, inside))
first_is z s at inside so (suc (suc (suc (suc i)))) low = absurd (omega arith)

last_is : (z : Line) (s : ℕ → ℕ) (at : ℕ) → 8 ≤ at → IsFour z → (i : ℕ) → i < 4 → nth_of_line 8 (extended z (far_of s at)) (12 + i) ≡ s (at - 8 + (12 + i))
last_is z s at inside so zero low = get_or-append_right z.q _ 4 4 0 so.q (omega arith) ∙ ap s (omega (arith, inside))
last_is z s at inside so (suc zero) low = get_or-append_right z.q _ 4 5 0 so.q (omega arith) ∙ ap s (omega (arith, inside))
last_is z s at inside so (suc (suc zero)) low = get_or-append_right z.q _ 4 6 0 so.q (omega arith) ∙ ap s (omega (arith, inside))
last_is z s at inside so (suc (suc (suc zero))) low = get_or-append_right z.q _ 4 7 0 so.q (omega arith) ∙ ap s (omega (arith, inside))
last_is z s at inside so (suc (suc (suc (suc i)))) low = absurd (omega arith)

-- A block of what is there changes nothing.
unchanged : (m b : Map) (y x rows columns : ℕ) → ((r c : ℕ) → y ≤ r → r < y + rows → x ≤ c → c < x + columns → b (r - y) (c - x) ≡ m r c)
    → with_block m y x rows columns b ≡ m
unfolding with_block
unchanged m b y x rows columns same = fun_ext λ r. fun_ext λ c. grind (arith, nat_tests)

-- Of a block of sixteen rows, or columns, only the eight in the middle change something.
middle_rows : (m b d : Map) (y x columns : ℕ) → ((r c : ℕ) → y ≤ r → r < y + 4 → x ≤ c → c < x + columns → b (r - y) (c - x) ≡ m r c)
    → ((r c : ℕ) → y + 12 ≤ r → r < y + 16 → x ≤ c → c < x + columns → b (r - y) (c - x) ≡ m r c)
    → ((r c : ℕ) → y + 4 ≤ r → r < y + 12 → x ≤ c → c < x + columns → b (r - y) (c - x) ≡ d (r - (y + 4)) (c - x))
    → with_block m (y + 4) x 8 columns d ≡ with_block m y x 16 columns b
unfolding with_block
middle_rows m b d y x columns first last middle = fun_ext λ r. fun_ext λ c. grind (arith, nat_tests)

middle_columns : (m b d : Map) (y x rows : ℕ) → ((r c : ℕ) → y ≤ r → r < y + rows → x ≤ c → c < x + 4 → b (r - y) (c - x) ≡ m r c)
    → ((r c : ℕ) → y ≤ r → r < y + rows → x + 12 ≤ c → c < x + 16 → b (r - y) (c - x) ≡ m r c)
    → ((r c : ℕ) → y ≤ r → r < y + rows → x + 4 ≤ c → c < x + 12 → b (r - y) (c - x) ≡ d (r - y) (c - (x + 4)))
    → with_block m y (x + 4) rows 8 d ≡ with_block m y x rows 16 b
unfolding with_block
middle_columns m b d y x rows first last middle = fun_ext λ r. fun_ext λ c. grind (arith, nat_tests)

least : (a b : ℕ) → a ≤ b → min a b ≡ a
least a b le = omega arith

-- places of a line
kept_place : (l : Limits) (s : ℕ → ℕ) (at k : ℕ) → 8 ≤ at → at - 8 ≤ k → k < at - 8 + 16 → filter_mask l (line_at 8 s at) ≡ false
    → nth_of_line 8 (filtered_line l Sixteen (line_at 8 s at)) (k - (at - 8)) ≡ s k
kept_place l s at k inside from to off =
    ap (λ (z : Line). nth_of_line 8 z (k - (at - 8))) (left_alone l (line_at 8 s at) off)
    ∙ (line_is 8 at (k - (at - 8)) s inside (omega (arith, from, to)) ∙ ap s (omega (arith, from)))

first_place : (l : Limits) (s : ℕ → ℕ) (at k : ℕ) → 8 ≤ at → at - 8 ≤ k → k < at - 8 + 4 → is_flat_far l (line_at 8 s at) ≡ false
    → nth_of_line 8 (filtered_line l Sixteen (line_at 8 s at)) (k - (at - 8)) ≡ s k
first_place l s at k inside from to off =
    ap (λ (z : Line). nth_of_line 8 z (k - (at - 8))) (near_alone l (line_at 8 s at) off ∙ near_extended l s at)
    ∙ (first_is (filtered_near l true (line_at 4 s at)) s at inside (four_near l _ (four_at s at)) (k - (at - 8)) (omega (arith, from, to)) ∙ ap s (omega (arith, from)))

last_place : (l : Limits) (s : ℕ → ℕ) (at k : ℕ) → 8 ≤ at → at - 8 + 12 ≤ k → k < at - 8 + 16 → is_flat_far l (line_at 8 s at) ≡ false
    → nth_of_line 8 (filtered_line l Sixteen (line_at 8 s at)) (k - (at - 8)) ≡ s k
last_place l s at k inside from to off =
    let i : k - (at - 8) ≡ 12 + (k - (at - 8 + 12)) = omega (arith, from) in
    ap (λ (z : Line). nth_of_line 8 z (k - (at - 8))) (near_alone l (line_at 8 s at) off ∙ near_extended l s at)
    ∙ (ap (nth_of_line 8 (extended (filtered_near l true (line_at 4 s at)) (far_of s at))) i
    ∙ (last_is (filtered_near l true (line_at 4 s at)) s at inside (four_near l _ (four_at s at)) (k - (at - 8 + 12)) (omega (arith, from, to)) ∙ ap s (omega (arith, from))))

middle_place : (l : Limits) (s : ℕ → ℕ) (at k : ℕ) → 8 ≤ at → at - 8 + 4 ≤ k → k < at - 8 + 12 → is_flat_far l (line_at 8 s at) ≡ false
    → nth_of_line 8 (filtered_line l Sixteen (line_at 8 s at)) (k - (at - 8)) ≡ nth_of_line 4 (filtered_near l true (line_at 4 s at)) (k - (at - 8 + 4))
middle_place l s at k inside from to off =
    let i : k - (at - 8) ≡ 4 + (k - (at - 8 + 4)) = omega (arith, from) in
    ap (λ (z : Line). nth_of_line 8 z (k - (at - 8))) (near_alone l (line_at 8 s at) off ∙ near_extended l s at)
    ∙ (ap (nth_of_line 8 (extended (filtered_near l true (line_at 4 s at)) (far_of s at))) i
    ∙ middle_is (filtered_near l true (line_at 4 s at)) (far_of s at) (four_near l _ (four_at s at)) (k - (at - 8 + 4)) (omega (arith, from, to)))

-- the lines of eight columns, and of eight rows, without a mask
abbrev DownOff : (Line → Bool) → Map → ℕ → ℕ → Type 0
DownOff mask m row column = (j : ℕ) → j < 8 → mask (line_down 8 m row (column + j)) ≡ false

abbrev AlongOff : (Line → Bool) → Map → ℕ → ℕ → Type 0
AlongOff mask m row column = (i : ℕ) → i < 8 → mask (line_along 8 m (row + i) column) ≡ false

-- one of them by its own column or row
down_off : (mask : Line → Bool) (m : Map) (row column c : ℕ) → column ≤ c → c < column + 8 → DownOff mask m row column → mask (line_down 8 m row c) ≡ false
down_off mask m row column c from to off =
    let e : column + (c - column) ≡ c = omega (arith, from) in subst (λ (k : ℕ). mask (line_down 8 m row k) ≡ false) e (off (c - column) (omega (arith, from, to)))

along_off : (mask : Line → Bool) (m : Map) (row column r : ℕ) → row ≤ r → r < row + 8 → AlongOff mask m row column → mask (line_along 8 m r column) ≡ false
along_off mask m row column r from to off =
    let e : row + (r - row) ≡ r = omega (arith, from) in subst (λ (k : ℕ). mask (line_along 8 m k column) ≡ false) e (off (r - row) (omega (arith, from, to)))

abbrev down_block : (Line → Line) → ℕ → Map → ℕ → ℕ → Map
down_block f n m row column = λ i j. nth_of_line n (f (line_down n m row (column + j))) i

abbrev along_block : (Line → Line) → ℕ → Map → ℕ → ℕ → Map
along_block f n m row column = λ i j. nth_of_line n (f (line_along n m (row + i) column)) j

-- a place of such a block, by the column or row itself
down_at : (f : Line → Line) (n : ℕ) (m : Map) (row column i c : ℕ) → column ≤ c → down_block f n m row column i (c - column) ≡ nth_of_line n (f (line_down n m row c)) i
down_at f n m row column i c from = let e : column + (c - column) ≡ c = omega (arith, from) in ap (λ (k : ℕ). nth_of_line n (f (line_down n m row k)) i) e

along_at : (f : Line → Line) (n : ℕ) (m : Map) (row column r j : ℕ) → row ≤ r → along_block f n m row column (r - row) j ≡ nth_of_line n (f (line_along n m r column)) j
along_at f n m row column r j from = let e : row + (r - row) ≡ r = omega (arith, from) in ap (λ (k : ℕ). nth_of_line n (f (line_along n m k column)) j) e

pub down_kept : (l : Limits) (a : Area) (m : Map) (row column : ℕ) → 8 ≤ row → DownOff (filter_mask l) m row column
    → m ≡ down_filtered 8 (filtered_line l Sixteen) a m row column
unfolding down_filtered
down_kept l a m row column inside off = sym (unchanged m (down_block (filtered_line l Sixteen) 8 m row column) (row - 8) column _ _ λ r c low high from to.
    down_at (filtered_line l Sixteen) 8 m row column (r - (row - 8)) c from
    ∙ kept_place l (λ y. m y c) row r inside low (omega (arith, high)) (down_off (filter_mask l) m row column c from (omega (arith, to)) off))

pub along_kept : (l : Limits) (a : Area) (m : Map) (row column : ℕ) → 8 ≤ column → AlongOff (filter_mask l) m row column
    → m ≡ along_filtered 8 (filtered_line l Sixteen) a m row column
unfolding along_filtered
along_kept l a m row column inside off = sym (unchanged m (along_block (filtered_line l Sixteen) 8 m row column) row (column - 8) _ _ λ r c low high from to.
    along_at (filtered_line l Sixteen) 8 m row column r (c - (column - 8)) low
    ∙ kept_place l (m r) column c inside from (omega (arith, to)) (along_off (filter_mask l) m row column r low (omega (arith, high)) off))

down_same : (l : Limits) (m : Map) (row column columns : ℕ) → columns ≤ 8 → 8 ≤ row → DownOff (is_flat_far l) m row column
    → with_block m (row - 8 + 4) column 8 columns (down_block (filtered_near l true) 4 m row column) ≡ with_block m (row - 8) column 16 columns (down_block (filtered_line l Sixteen) 8 m row column)
down_same l m row column columns few inside off =
    middle_rows m (down_block (filtered_line l Sixteen) 8 m row column) (down_block (filtered_near l true) 4 m row column) (row - 8) column columns
    (λ r c low high from to. down_at (filtered_line l Sixteen) 8 m row column (r - (row - 8)) c from
    ∙ first_place l (λ y. m y c) row r inside low high (down_off (is_flat_far l) m row column c from (omega (arith, to, few)) off))
    (λ r c low high from to. down_at (filtered_line l Sixteen) 8 m row column (r - (row - 8)) c from
    ∙ last_place l (λ y. m y c) row r inside low high (down_off (is_flat_far l) m row column c from (omega (arith, to, few)) off))
    (λ r c low high from to. down_at (filtered_line l Sixteen) 8 m row column (r - (row - 8)) c from
    ∙ (middle_place l (λ y. m y c) row r inside low high (down_off (is_flat_far l) m row column c from (omega (arith, to, few)) off)
    ∙ sym (down_at (filtered_near l true) 4 m row column (r - (row - 8 + 4)) c from)))

along_same : (l : Limits) (m : Map) (row column rows : ℕ) → rows ≤ 8 → 8 ≤ column → AlongOff (is_flat_far l) m row column
    → with_block m row (column - 8 + 4) rows 8 (along_block (filtered_near l true) 4 m row column) ≡ with_block m row (column - 8) rows 16 (along_block (filtered_line l Sixteen) 8 m row column)
along_same l m row column rows few inside off =
    middle_columns m (along_block (filtered_line l Sixteen) 8 m row column) (along_block (filtered_near l true) 4 m row column) row (column - 8) rows
    (λ r c low high from to. along_at (filtered_line l Sixteen) 8 m row column r (c - (column - 8)) low
    ∙ first_place l (m r) column c inside from to (along_off (is_flat_far l) m row column r low (omega (arith, high, few)) off))
    (λ r c low high from to. along_at (filtered_line l Sixteen) 8 m row column r (c - (column - 8)) low
    ∙ last_place l (m r) column c inside from to (along_off (is_flat_far l) m row column r low (omega (arith, high, few)) off))
    (λ r c low high from to. along_at (filtered_line l Sixteen) 8 m row column r (c - (column - 8)) low
    ∙ (middle_place l (m r) column c inside from to (along_off (is_flat_far l) m row column r low (omega (arith, high, few)) off)
    ∙ sym (along_at (filtered_near l true) 4 m row column r (c - (column - 8 + 4)) low)))

pub down_near : (l : Limits) (a : Area) (m new : Map) (row column : ℕ) → 8 ≤ row → row + 8 ≤ lower_end a → DownOff (is_flat_far l) m row column
    → new ≡ down_filtered 4 (filtered_near l true) a m row column → new ≡ down_filtered 8 (filtered_line l Sixteen) a m row column
unfolding down_filtered
down_near l a m new row column inside below off done =
    let four : row - 4 ≡ row - 8 + 4 = omega (arith, inside) in
    done ∙ rw (least 8 (lower_end a - (row - 4)) (omega (arith, below)), least 16 (lower_end a - (row - 8)) (omega (arith, below, inside)))
    (rw four (down_same l m row column (min 8 (right_end a - column)) (omega arith) inside off))

-- what was put of four samples on each side
pub four_down : (l : Limits) (a : Area) (m new : Map) (row column : ℕ) → new ≡ with_part a m (row - 4) column 8 8 (λ i j. nth_of_line 4 (filtered_near l true (line_down 4 m row (column + j))) i)
    → new ≡ down_filtered 4 (filtered_near l true) a m row column
unfolding down_filtered
four_down l a m new row column is = is

pub four_along : (l : Limits) (a : Area) (m new : Map) (row column : ℕ) → new ≡ with_part a m row (column - 4) 8 8 (λ i j. nth_of_line 4 (filtered_near l true (line_along 4 m (row + i) column)) j)
    → new ≡ along_filtered 4 (filtered_near l true) a m row column
unfolding along_filtered
four_along l a m new row column is = is

pub along_near : (l : Limits) (a : Area) (m new : Map) (row column : ℕ) → 8 ≤ column → column + 8 ≤ right_end a → AlongOff (is_flat_far l) m row column
    → new ≡ along_filtered 4 (filtered_near l true) a m row column → new ≡ along_filtered 8 (filtered_line l Sixteen) a m row column
unfolding along_filtered
along_near l a m new row column inside right off done =
    let four : column - 4 ≡ column - 8 + 4 = omega (arith, inside) in
    done ∙ rw (least 8 (right_end a - (column - 4)) (omega (arith, right)), least 16 (right_end a - (column - 8)) (omega (arith, right, inside)))
    (rw four (along_same l m row column (min 8 (lower_end a - row)) (omega arith) inside off))

-- by the lanes that are loaded
pub off_down : (a b : Lanes) (m : Map) (row column : ℕ) (mask : Line → Bool) → 8 ≤ row → AreLanes a (λ i j. m (row - 8 + i) (column + j)) → AreLanes b (λ i j. m (row + i) (column + j))
    → ((j : ℕ) → j < 8 → mask (line_between a b j) ≡ false) → DownOff mask m row column
off_down a b m row column mask inside so also off j low =
    sym (ap mask (wide_line a b _ _ (λ y. m y (column + j)) row j so also inside low (λ i. refl) (λ i. refl))) ∙ off j low

pub off_along : (a b : Lanes) (m : Map) (row column : ℕ) (mask : Line → Bool) → 8 ≤ column → AreLanes a (λ i j. m (row + j) (column - 8 + i)) → AreLanes b (λ i j. m (row + j) (column + i))
    → ((j : ℕ) → j < 8 → mask (line_between a b j) ≡ false) → AlongOff mask m row column
off_along a b m row column mask inside so also off j low =
    sym (ap mask (wide_line a b _ _ (m (row + j)) column j so also inside low (λ i. refl) (λ i. refl))) ∙ off j low

pub is_off : (t : Bool) → not t ≡ true → t ≡ false
is_off false is = refl
is_off true is = let no : ⊥ = cc in absurd no

-- the four rows on each side are those of a line of four
between_lanes : (a b : Lanes) (s : ℕ → ℕ → ℕ) (at : ℕ) → 8 ≤ at → AreLanes a (λ i j. s j (at - 8 + i)) → AreLanes b (λ i j. s j (at + i)) → AreLanes (between a b) (λ i j. s j (at - 4 + i))
between_lanes a b s at inside so also = record {
  r0 = λ j low. so.r4 j low ∙ ap (s j) (omega (arith, inside));
  r1 = λ j low. so.r5 j low ∙ ap (s j) (omega (arith, inside));
  r2 = λ j low. so.r6 j low ∙ ap (s j) (omega (arith, inside));
  r3 = λ j low. so.r7 j low ∙ ap (s j) (omega (arith, inside));
  r4 = λ j low. also.r0 j low ∙ ap (s j) (omega (arith, inside));
  r5 = λ j low. also.r1 j low ∙ ap (s j) (omega (arith, inside));
  r6 = λ j low. also.r2 j low ∙ ap (s j) (omega (arith, inside));
  r7 = λ j low. also.r3 j low ∙ ap (s j) (omega (arith, inside));
}

pub between_by : (a b x : Lanes) (s : ℕ → ℕ → ℕ) (at : ℕ) → 8 ≤ at → x ≡ between a b → AreLanes a (λ i j. s j (at - 8 + i)) → AreLanes b (λ i j. s j (at + i)) → AreLanes x (λ i j. s j (at - 4 + i))
between_by a b x s at inside is so also = rw is (between_lanes a b s at inside so also)
