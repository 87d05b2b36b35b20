-- Maps of planes: a row written, and a block of one row more.
use Rattle.std.proofs.Common.{◌≡◌, ◌<◌, ◌≤◌, ◌+◌, ◌*◌, ◌-◌, inl, inr, ℕ, ◌&&◌, cond, refl, sym, ◌∙◌, arith, List, length, get_or, take, drop, map, ◌++◌, ap}
use Rattle.std.proofs.Math.Path.{fun_ext}
use Rattle.std.proofs.lemmas.Bool.{cases_order, cases_lt, lt-ltb}
use Rattle.std.proofs.lemmas.Bool.Decides.{nat_tests}
use Rattle.std.proofs.lemmas.List.{places, take-map, drop-map, map-append, length-map, get_or-take, get_or-drop, length-take, length-drop}
use Rattle.std.proofs.Math.Nat.{mul-le-mul_right}
use Rattle.std.proofs.lemmas.List.{take_all}
use Rattle.std.proofs.lemmas.Simd.{put_chunk_whole}
use lib.Lanes.{chunk, put_chunk}
use borrow.Rule.Slice.PartMut.{put_mid}
use Rattle.vp9_types.specs.Maps.{Map, is_within, rows_of, with_block}

-- an element after a write to a part of a list
pub get-put_mid : (a k : ℕ) (xs ys : List ℕ) (j : ℕ) → a + k ≤ length xs → length ys ≡ k
    → get_or (put_mid a k xs ys) j 0 ≡ cond (is_within a k j) (get_or ys (j - a) 0) (get_or xs j 0)
get-put_mid a k xs ys j fits long = elim (cases_lt j a) [
  | inl low ↦ grind (arith, places, nat_tests)
  | inr from ↦ elim (cases_lt j (a + k)) [
    | inl mid ↦ grind (arith, places, nat_tests)
    | inr past ↦ grind (arith, places, nat_tests)
  ]
]

-- two places in rows of one width
pub next : (width a b : ℕ) → a < b → a * width + width ≤ b * width
next width a b lt = omega (arith, mul-le-mul_right width (more a b lt))
  where
    more : (a b : ℕ) → a < b → a + 1 ≤ b
    more a b lt = omega arith

-- the place (r, c) after a write of n samples to row y from column x on
put_at : (width : ℕ) (xs ys : List ℕ) (y x n r c : ℕ) → x + n ≤ width → y * width + width ≤ length xs → length ys ≡ n → c < width
    → get_or (put_mid (y * width + x) n xs ys) (r * width + c) 0 ≡ cond (is_within y 1 r && is_within x n c) (get_or ys (c - x) 0) (get_or xs (r * width + c) 0)
put_at width xs ys y x n r c wide high long low = get-put_mid (y * width + x) n xs ys (r * width + c) (omega arith) long ∙ elim (cases_order r y) [
  | inl same ↦ rw same (here (y * width))
  | inr other ↦ elim other [
    | inl above ↦ let e = next width r y above in grind (arith, nat_tests)
    | inr below ↦ let e = next width y r below in grind (arith, nat_tests)
  ]
]
  where
    here : (base : ℕ) → cond (is_within (base + x) n (base + c)) (get_or ys (base + c - (base + x)) 0) (get_or xs (base + c) 0) ≡ cond (is_within y 1 y && is_within x n c) (get_or ys (c - x) 0) (get_or xs (base + c) 0)
    here base = grind (arith, nat_tests, gap base)
      where
        gap : (base : ℕ) → base + c - (base + x) ≡ c - x
        gap base = omega arith

pub row_put : (width : ℕ) (xs ys : List ℕ) (y x n : ℕ) → x + n ≤ width → y * width + width ≤ length xs → length ys ≡ n
    → rows_of width (put_mid (y * width + x) n xs ys) ≡ with_block (rows_of width xs) y x 1 n (λ i j. get_or ys j 0)
unfolding rows_of with_block
row_put width xs ys y x n wide high long = fun_ext λ r. fun_ext λ c. elim (cases_lt c width) [
  | inl low ↦ rw (lt-ltb c width low) (put_at width xs ys y x n r c wide high long low)
  | inr past ↦ grind (arith, nat_tests)
]

pub with_block_same : (m : Map) (y x rows columns : ℕ) (a b : Map) → ((i j : ℕ) → i < rows → j < columns → a i j ≡ b i j)
    → with_block m y x rows columns a ≡ with_block m y x rows columns b
unfolding with_block
with_block_same m y x rows columns a b same = fun_ext λ r. fun_ext λ c. grind (arith, nat_tests)

pub no_rows : (m : Map) (y x columns : ℕ) (b : Map) → with_block m y x 0 columns b ≡ m
unfolding with_block
no_rows m y x columns b = fun_ext λ r. fun_ext λ c. grind (arith, nat_tests)

pub one_row_more : (m : Map) (y x i columns : ℕ) (b : Map) → with_block (with_block m y x i columns b) (y + i) x 1 columns (λ k j. b i j) ≡ with_block m y x (i + 1) columns b
unfolding with_block
one_row_more m y x i columns b = fun_ext λ r. fun_ext λ c. grind (arith, nat_tests)

entry : (stride i n j : ℕ) (block : List ℕ) → n ≤ stride → j < n → get_or (take n (drop (i * stride) block)) j 0 ≡ rows_of stride block i j
unfolding rows_of
entry stride i n j block narrow low = let lt : j < stride = omega arith in rw (get_or-take, get_or-drop, lt-ltb) refl

above : (y i n : ℕ) → i < n → y + i + 1 ≤ y + n
above y i n lt = omega arith

pub add-sub_left : (a b : ℕ) → a + b - a ≡ b
add-sub_left a b = omega arith

-- the loop's step, in the shapes that `samples[at..at + n].copy_from_slice(&block[from..from + n])` leaves
pub row_copied : (m : Map) (width stride : ℕ) (xs block now : List ℕ) (y x i n rows : ℕ)
    → rows_of width xs ≡ with_block m y x i n (rows_of stride block)
    → i < rows → x + n ≤ width → (y + rows) * width ≤ length xs → n ≤ stride → rows * stride ≤ length block
    → now ≡ take (i * stride + n - i * stride) (drop (i * stride) block)
    → rows_of width (put_mid ((y + i) * width + x) ((y + i) * width + x + n - ((y + i) * width + x)) xs now) ≡ with_block m y x (i + 1) n (rows_of stride block)
row_copied m width stride xs block now y x i n rows so lt wide high narrow whole is =
    let row : (y + i) * width + width ≤ length xs = omega (arith, mul-le-mul_right width (above y i rows lt)) in
    let part : i * stride + n ≤ length block = omega (arith, mul-le-mul_right stride (above 0 i rows lt)) in
    let same : now ≡ take n (drop (i * stride) block) = rw add-sub_left at is in
    rw (add-sub_left, same)
    (row_put width xs (take n (drop (i * stride) block)) (y + i) x n wide row (omega (arith, length-take n (drop (i * stride) block), length-drop (i * stride) block))
    ∙ rw so (with_block_same _ (y + i) x 1 n _ _ (λ a j _ low. entry stride i n j block narrow low) ∙ one_row_more m y x i n (rows_of stride block)))

length_part : (at n : ℕ) (xs : List ℕ) → at + n ≤ length xs → length (take (at + n - at) (drop at xs)) ≡ n
length_part at n xs fits = rw add-sub_left (omega (arith, length-take n (drop at xs), length-drop at xs))

-- the same where a row is loaded and stored as a vector
pub row_stored : (m : Map) (width n : ℕ) (xs block : List ℕ) (y x i rows : ℕ)
    → rows_of width xs ≡ with_block m y x i n (rows_of n block) → i < rows → x + n ≤ width → (y + rows) * width ≤ length xs → rows * n ≤ length block
    → rows_of width (put_mid ((y + i) * width + x) ((y + i) * width + x + n - ((y + i) * width + x)) xs
    (put_chunk 0 (take ((y + i) * width + x + n - ((y + i) * width + x)) (drop ((y + i) * width + x) xs))
    (chunk 0 n (take (i * n + n - i * n) (drop (i * n) block))))) ≡ with_block m y x (i + 1) n (rows_of n block)
row_stored m width n xs block y x i rows so lt wide high whole =
    let at : ℕ = (y + i) * width + x in
    let line : List ℕ = take (i * n + n - i * n) (drop (i * n) block) in
    let row : (y + i) * width + width ≤ length xs = omega (arith, mul-le-mul_right width (above y i rows lt)) in
    let part : i * n + n ≤ length block = omega (arith, mul-le-mul_right n (above 0 i rows lt)) in
    let long : length line ≡ n = length_part (i * n) n block part in
    let all : chunk 0 n line ≡ line = take_all n line (omega arith) in
    let over : put_chunk 0 (take (at + n - at) (drop at xs)) line ≡ line = put_chunk_whole _ line (length_part at n xs (omega arith) ∙ sym long) in
    rw (all, over) (row_copied m width n xs block line y x i n rows so lt wide high (omega arith) whole refl)

pub place : (width : ℕ) (xs : List ℕ) (y x : ℕ) → x < width → rows_of width xs y x ≡ get_or xs (y * width + x) 0
unfolding rows_of
place width xs y x low = rw lt-ltb refl

-- samples that stand for numbers, a part of them written
pub map_mid : {X : Type 0} (f : X → ℕ) (a k : ℕ) (xs ys : List X) → map f (put_mid a k xs ys) ≡ put_mid a k (map f xs) (map f ys)
map_mid f a k xs ys =
    map-append f (take a xs) (ys ++ drop k (drop a xs))
    ∙ ap (λ (p : List ℕ). p ++ map f (ys ++ drop k (drop a xs))) (sym (take-map f a xs))
    ∙ ap (λ (q : List ℕ). take a (map f xs) ++ q)
    (map-append f ys (drop k (drop a xs)) ∙ ap (λ (l : List ℕ). map f ys ++ l) (sym (drop-map f k (drop a xs)) ∙ ap (drop k) (sym (drop-map f a xs))))

map_part : {X : Type 0} (f : X → ℕ) (n at : ℕ) (xs : List X) → map f (take n (drop at xs)) ≡ take n (drop at (map f xs))
map_part f n at xs = sym (take-map f n (drop at xs)) ∙ ap (take n) (sym (drop-map f at xs))

-- the loop's step of such samples
pub values_copied : {X : Type 0} (f : X → ℕ) (m : Map) (width stride : ℕ) (xs block now : List X) (y x i n rows : ℕ)
    → rows_of width (map f xs) ≡ with_block m y x i n (rows_of stride (map f block))
    → i < rows → x + n ≤ width → (y + rows) * width ≤ length xs → n ≤ stride → rows * stride ≤ length block
    → now ≡ take (i * stride + n - i * stride) (drop (i * stride) block)
    → rows_of width (map f (put_mid ((y + i) * width + x) ((y + i) * width + x + n - ((y + i) * width + x)) xs now)) ≡ with_block m y x (i + 1) n (rows_of stride (map f block))
values_copied f m width stride xs block now y x i n rows so lt wide high narrow whole is =
    ap (rows_of width) (map_mid f ((y + i) * width + x) ((y + i) * width + x + n - ((y + i) * width + x)) xs now)
    ∙ row_copied m width stride (map f xs) (map f block) (map f now) y x i n rows so lt wide
    (omega (arith, high, length-map xs f)) narrow (omega (arith, whole, length-map block f))
    (ap (map f) is ∙ map_part f (i * stride + n - i * stride) (i * stride) block)

-- the same where a row is made in its place
row_made : (m : Map) (width : ℕ) (xs now : List ℕ) (y x i n rows : ℕ) (b : Map)
    → rows_of width xs ≡ with_block m y x i n b → i < rows → x + n ≤ width → (y + rows) * width ≤ length xs
    → length now ≡ n → ((j : ℕ) → j < n → get_or now j 0 ≡ b i j)
    → rows_of width (put_mid ((y + i) * width + x) ((y + i) * width + x + n - ((y + i) * width + x)) xs now) ≡ with_block m y x (i + 1) n b
row_made m width xs now y x i n rows b so lt wide high long is =
    let row : (y + i) * width + width ≤ length xs = omega (arith, mul-le-mul_right width (above y i rows lt)) in
    rw add-sub_left
    (row_put width xs now (y + i) x n wide row long
    ∙ rw so (with_block_same _ (y + i) x 1 n _ _ (λ a j _ low. is j low) ∙ one_row_more m y x i n b))

pub values_made : {X : Type 0} (f : X → ℕ) (m : Map) (width : ℕ) (xs now : List X) (y x i n rows : ℕ) (b : Map)
    → rows_of width (map f xs) ≡ with_block m y x i n b → i < rows → x + n ≤ width → (y + rows) * width ≤ length xs
    → length now ≡ length (take ((y + i) * width + x + n - ((y + i) * width + x)) (drop ((y + i) * width + x) xs)) → ((j : ℕ) → j < n → get_or (map f now) j 0 ≡ b i j)
    → rows_of width (map f (put_mid ((y + i) * width + x) ((y + i) * width + x + n - ((y + i) * width + x)) xs now)) ≡ with_block m y x (i + 1) n b
values_made f m width xs now y x i n rows b so lt wide high same is =
    let at : ℕ = (y + i) * width + x in
    let fits : at + n ≤ length xs = omega (arith, wide, high, mul-le-mul_right width (above y i rows lt)) in
    let long : length now ≡ n = omega (arith, same, add-sub_left at n, length-take (at + n - at) (drop at xs), length-drop at xs) in
    ap (rows_of width) (map_mid f at (at + n - at) xs now)
    ∙ row_made m width (map f xs) (map f now) y x i n rows b so lt wide
    (omega (arith, high, length-map xs f)) (length-map now f ∙ long) is
