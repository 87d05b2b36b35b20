-- Lanes: what each operation on vectors gives, lane by lane.
use Rattle.std.proofs.Common.{◌≡◌, ℕ, ◌+◌, ◌*◌, ◌^◌, ◌<◌, ◌≤◌, ℤ, pos, negsuc, ◌+ℤ◌, ◌*ℤ◌, List, unsigned_abs, to_z, of_z, arith, refl, ◌∙◌, ap, sym, length, get_or, ◌++◌, [], ◌∷◌, map, ◌%◌, ◌/◌, ◌⊎◌, inl, inr, zero, suc, min}
use Rattle.std.proofs.lemmas.Int.{unsigned_abs-mul, to_z-of_z, of_z-to_z, wrapping_mul_is, wrapping_add_is, int_wrap_fits, fits_signed_mul}
use Rattle.std.proofs.Math.Nat.{mod-lt, mul-le-mul}
use lib.Lanes.{Each1, zip2, chunk, top}
use mathlib.Core.Bool.{cond}
use lib.Dec.{ltb}
use Rattle.std.specs.Int.{int_shr}
use Rattle.vp9_types.specs.Sizes.{clip}
use Rattle.std.proofs.lemmas.Simd.{Each1-get_or, Each1-from_get_or, get_or-zip2, length-zip2, length-chunk, get_or-chunk}
use Rattle.std.proofs.lemmas.Bool.{cases_lt, cases_Bool, ltb-true, ltb-false}
use Rattle.std.proofs.lemmas.List.{get_or_past, get_or-map, length-map, get_or_append_left, get_or-append-add}
use mir.Syntax.{w16, w32, cast, signed, unsigned, wrap_mul, wrap_add}
use borrow.Rule.Simd.Lanes.{act1, act2, Asks1}
use borrow.Table.Row.{s_int}
use Rattle.tap_filter.proofs.NumberLemmas.{fits_16, fits_32, tap_kept, eight_is}
use Rattle.tap_filter.specs.Filter.{weighted, rounded, filtered}
use Rattle.tap_filter.specs.Code.{AreLanes, AreTurns, IsTurned, at, taps_in, low_lane, high_lane}

pub widened_lane : (z : ℤ) → unsigned_abs z ≤ 4095 → act1 (cast signed signed w32) (s_int w16) (s_int w32) (of_z w16 z) ≡ of_z w32 z
widened_lane z small = ap (of_z w32) (to_z-of_z w16 z (fits_16 z small))

pub times_lane : (x y : ℤ) → unsigned_abs x ≤ 128 → unsigned_abs y ≤ 4095 → act2 wrap_mul (s_int w32) (s_int w32) (s_int w32) (of_z w32 x) (of_z w32 y) ≡ of_z w32 (x *ℤ y)
times_lane x y small few =
    sym (of_z-to_z w32 (of_z w32 x * of_z w32 y % 4294967296) (mod-lt (of_z w32 x * of_z w32 y) (omega arith)))
    ∙ ap (of_z w32) (wrapping_mul_is w32 x y (fits_32 x (omega (arith, small))) (fits_32 y (omega (arith, few))) ∙ int_wrap_fits w32 (x *ℤ y) (fits_signed_mul w32 x y 128 4095 small few (omega arith)))

sum_small : (x y : ℤ) (a b : ℕ) → unsigned_abs x ≤ a → unsigned_abs y ≤ b → unsigned_abs (x +ℤ y) ≤ a + b
sum_small (pos x) (pos y) a b small few = omega arith
sum_small (pos x) (negsuc y) a b small few = grind (arith, small, few)
sum_small (negsuc x) (pos y) a b small few = grind (arith, small, few)
sum_small (negsuc x) (negsuc y) a b small few = grind (arith, small, few)

pub plus_lane : (x y : ℤ) → unsigned_abs x ≤ 2 ^ 22 → unsigned_abs y ≤ 2 ^ 22 → to_z w32 ((of_z w32 x + of_z w32 y) % 4294967296) ≡ x +ℤ y
plus_lane x y small few = wrapping_add_is w32 x y (fits_32 x (omega (arith, small))) (fits_32 y (omega (arith, few))) ∙ int_wrap_fits w32 (x +ℤ y) (fits_32 (x +ℤ y) (omega (arith, sum_small x y (2 ^ 22) (2 ^ 22) small few)))

pub taken_lane : (n : ℕ) → n ≤ 4095 → to_z w16 (act1 (cast unsigned signed w16) (s_int w16) (s_int w16) n) ≡ pos n
taken_lane n small = let low : n < 32768 = omega arith in grind (arith, low)

pub asked_lane : (n : ℕ) → n ≤ 4095 → Asks1 (cast unsigned signed w16) (s_int w16) n
asked_lane n small = fits_16 (pos n) (omega (arith, small))

abbrev pub IsUpTo : ℕ → ℤ → Type 0
IsUpTo most z = unsigned_abs z ≤ most

pub lanes_of : (n most : ℕ) (v : List ℤ) → length v ≡ n → Each1 (IsUpTo most) v → AreLanes n most v
lanes_of n most v long each = record {
  long = long;
  small = λ j. elim (cases_lt j (length v)) [
    | inl low ↦ Each1-get_or (IsUpTo most) v j (pos 0) low each
    | inr past ↦ rw (get_or_past v j (pos 0) past) (omega arith)
  ];
}

pub each_eight : (P : ℕ → Type 0) → P 0 → P 1 → P 2 → P 3 → P 4 → P 5 → P 6 → P 7 → (j : ℕ) → j < 8 → P j
each_eight P a b c d e f g h zero low = a
each_eight P a b c d e f g h (suc zero) low = b
each_eight P a b c d e f g h (suc (suc zero)) low = c
each_eight P a b c d e f g h (suc (suc (suc zero))) low = d
each_eight P a b c d e f g h (suc (suc (suc (suc zero)))) low = e
each_eight P a b c d e f g h (suc (suc (suc (suc (suc zero))))) low = f
each_eight P a b c d e f g h (suc (suc (suc (suc (suc (suc zero)))))) low = g
each_eight P a b c d e f g h (suc (suc (suc (suc (suc (suc (suc zero))))))) low = h
each_eight P a b c d e f g h (suc (suc (suc (suc (suc (suc (suc (suc j)))))))) low = absurd (omega arith)

-- one of two joined vectors
abbrev pub joined : List ℤ → List ℤ → ℕ → ℤ
joined p q k = to_z w16 (get_or (map (of_z w16) p ++ map (of_z w16) q) k 0)

pub front : (p q : List ℤ) (k : ℕ) → AreLanes 16 4095 p → k < 16 → joined p q k ≡ at p k
front p q k lanes low =
    ap (to_z w16) (get_or_append_left (map (of_z w16) p) (map (of_z w16) q) 0 k (omega (arith, length-map p (of_z w16), lanes.long))
    ∙ get_or-map (of_z w16) p k (pos 0) 0 (omega (arith, lanes.long))) ∙ to_z-of_z w16 (at p k) (fits_16 (at p k) (lanes.small k))

pub behind : (p q : List ℤ) (n k : ℕ) → AreLanes 16 4095 p → AreLanes 16 4095 q → n ≡ 16 + k → k < 16 → joined p q n ≡ at q k
behind p q n k lanes others is low =
    let past : n ≡ length (map (of_z w16) p) + k = omega (arith, length-map p (of_z w16), lanes.long, is) in
    ap (to_z w16) (ap (λ i. get_or (map (of_z w16) p ++ map (of_z w16) q) i 0) past ∙ get_or-append-add (map (of_z w16) p) (map (of_z w16) q) k 0
    ∙ get_or-map (of_z w16) q k (pos 0) 0 (omega (arith, others.long))) ∙ to_z-of_z w16 (at q k) (fits_16 (at q k) (others.small k))

-- four of each half by turns, from lane a on
abbrev pub by_fours : List ℤ → List ℤ → ℕ → List ℤ
by_fours p q a = joined p q (a + 0) ∷ joined p q (a + 16) ∷ joined p q (a + 1) ∷ joined p q (a + 17) ∷ joined p q (a + 2) ∷ joined p q (a + 18) ∷ joined p q (a + 3) ∷ joined p q (a + 19) ∷ joined p q (a + 8) ∷ joined p q (a + 24) ∷ joined p q (a + 9) ∷ joined p q (a + 25) ∷ joined p q (a + 10) ∷ joined p q (a + 26) ∷ joined p q (a + 11) ∷ joined p q (a + 27) ∷ []

pub fours_even : (p q : List ℤ) (a : ℕ) → AreLanes 16 4095 p → a ≤ 4 → (j : ℕ) → j < 8 → at (by_fours p q a) (2 * j) ≡ at p (a + low_lane j)
fours_even p q a lanes low = each_eight (λ j. at (by_fours p q a) (2 * j) ≡ at p (a + low_lane j))
    (front p q (a + 0) lanes (omega arith)) (front p q (a + 1) lanes (omega arith)) (front p q (a + 2) lanes (omega arith)) (front p q (a + 3) lanes (omega arith)) (front p q (a + 8) lanes (omega arith)) (front p q (a + 9) lanes (omega arith)) (front p q (a + 10) lanes (omega arith)) (front p q (a + 11) lanes (omega arith))

pub fours_odd : (p q : List ℤ) (a : ℕ) → AreLanes 16 4095 p → AreLanes 16 4095 q → a ≤ 4 → (j : ℕ) → j < 8 → at (by_fours p q a) (2 * j + 1) ≡ at q (a + low_lane j)
fours_odd p q a lanes others low = each_eight (λ j. at (by_fours p q a) (2 * j + 1) ≡ at q (a + low_lane j))
    (behind p q (a + 16) (a + 0) lanes others (omega arith) (omega arith)) (behind p q (a + 17) (a + 1) lanes others (omega arith) (omega arith)) (behind p q (a + 18) (a + 2) lanes others (omega arith) (omega arith)) (behind p q (a + 19) (a + 3) lanes others (omega arith) (omega arith)) (behind p q (a + 24) (a + 8) lanes others (omega arith) (omega arith)) (behind p q (a + 25) (a + 9) lanes others (omega arith) (omega arith)) (behind p q (a + 26) (a + 10) lanes others (omega arith) (omega arith)) (behind p q (a + 27) (a + 11) lanes others (omega arith) (omega arith))

pub low_below : (j : ℕ) → j < 8 → low_lane j < 16
low_below j few = omega (arith, few)

pub high_below : (j : ℕ) → j < 8 → high_lane j < 16
high_below j few = omega (arith, few)

-- which lane of its vector lane i of sixteen is
abbrev pub half_lane : ℕ → ℕ
half_lane i = i % 4 + 4 * (i / 8)

pub half_below : (i : ℕ) → i < 16 → half_lane i < 8
half_below i few = omega (arith, few)

pub lane_cases : (i : ℕ) → (low_lane (half_lane i) ≡ i) ⊎ (high_lane (half_lane i) ≡ i)
lane_cases i = elim (cases_lt (i % 8) 4) [
  | inl low ↦ inl (omega (arith, low))
  | inr high ↦ inr (omega (arith, high))
]

-- products of two vectors
abbrev pub wide : List ℤ → List ℕ
wide v = map (act1 (cast signed signed w32) (s_int w16) (s_int w32)) (map (of_z w16) v)

abbrev pub products : List ℤ → List ℤ → List ℕ
products m p = zip2 (act2 wrap_mul (s_int w32) (s_int w32) (s_int w32)) (wide m) (wide p)

wide_at : {n : ℕ} (v : List ℤ) (most k : ℕ) → AreLanes n most v → most ≤ 4095 → k < n → get_or (wide v) k 0 ≡ of_z w32 (at v k)
wide_at v most k lanes few low =
    get_or-map (act1 (cast signed signed w32) (s_int w16) (s_int w32)) (map (of_z w16) v) k 0 0 (omega (arith, length-map v (of_z w16), lanes.long))
    ∙ ap (act1 (cast signed signed w32) (s_int w16) (s_int w32)) (get_or-map (of_z w16) v k (pos 0) 0 (omega (arith, lanes.long)))
    ∙ widened_lane (at v k) (omega (arith, lanes.small k))

length_wide : {n : ℕ} (v : List ℤ) (most : ℕ) → AreLanes n most v → length (wide v) ≡ n
length_wide v most lanes = length-map (map (of_z w16) v) (act1 (cast signed signed w32) (s_int w16) (s_int w32)) ∙ length-map v (of_z w16) ∙ lanes.long

product_at : {n : ℕ} (m p : List ℤ) (k : ℕ) → AreLanes n 128 m → AreLanes n 4095 p → k < n → get_or (products m p ++ products m p) k 0 ≡ of_z w32 (at m k *ℤ at p k)
product_at m p k taps lanes low =
    let f = act2 wrap_mul (s_int w32) (s_int w32) (s_int w32) in
    let long_m = length_wide m 128 taps in
    let long_p = length_wide p 4095 lanes in
    get_or_append_left (products m p) (products m p) 0 k (omega (arith, length-zip2 f (wide m) (wide p) (long_m ∙ sym long_p), long_m))
    ∙ get_or-zip2 f (wide m) (wide p) k 0 0 0 (omega (arith, long_m)) (omega (arith, long_p))
    ∙ rw (wide_at m 128 k taps (omega arith) low, wide_at p 4095 k lanes (omega arith) low) (times_lane (at m k) (at p k) (taps.small k) (lanes.small k))

pub fours_small : (p q : List ℤ) (a : ℕ) → AreLanes 16 4095 p → AreLanes 16 4095 q → a ≤ 4 → AreLanes 16 4095 (by_fours p q a)
fours_small p q a lanes others low = lanes_of 16 4095 (by_fours p q a) refl
    (f (a + 0) (omega arith), (g (a + 16) (a + 0) (omega arith) (omega arith), (f (a + 1) (omega arith), (g (a + 17) (a + 1) (omega arith) (omega arith), (f (a + 2) (omega arith), (g (a + 18) (a + 2) (omega arith) (omega arith), (f (a + 3) (omega arith), (g (a + 19) (a + 3) (omega arith) (omega arith), (f (a + 8) (omega arith), (g (a + 24) (a + 8) (omega arith) (omega arith), (f (a + 9) (omega arith), (g (a + 25) (a + 9) (omega arith) (omega arith), (f (a + 10) (omega arith), (g (a + 26) (a + 10) (omega arith) (omega arith), (f (a + 11) (omega arith), (g (a + 27) (a + 11) (omega arith) (omega arith), tt))))))))))))))))
  where
    f : (k : ℕ) → k < 16 → unsigned_abs (joined p q k) ≤ 4095
    f k few = rw (front p q k lanes few) (lanes.small k)

    g : (n k : ℕ) → n ≡ 16 + k → k < 16 → unsigned_abs (joined p q n) ≤ 4095
    g n k is few = rw (behind p q n k lanes others is few) (others.small k)

-- sums of two neighbours of a list of products
abbrev pub neighbours : List ℕ → ℕ → ℤ
neighbours z k = to_z w32 ((get_or (z ++ z) k 0 + get_or (z ++ z) (k + 1) 0) % 4294967296)

abbrev pub neighbour_sums : List ℕ → List ℤ
neighbour_sums z = neighbours z 0 ∷ neighbours z 2 ∷ neighbours z 4 ∷ neighbours z 6 ∷ neighbours z 8 ∷ neighbours z 10 ∷ neighbours z 12 ∷ neighbours z 14 ∷ []

product_small : (s a : ℤ) → unsigned_abs s ≤ 128 → unsigned_abs a ≤ 4095 → unsigned_abs (s *ℤ a) ≤ 2 ^ 19
product_small s a few small = omega (arith, unsigned_abs-mul s a, mul-le-mul few small)

neighbour_is : {n : ℕ} (m p : List ℤ) (k : ℕ) → AreLanes n 128 m → AreLanes n 4095 p → k + 1 < n →
    neighbours (products m p) k ≡ (at m k *ℤ at p k) +ℤ (at m (k + 1) *ℤ at p (k + 1))
neighbour_is {n} m p k taps lanes low =
    let one : k < n = omega arith in
    rw (product_at m p k taps lanes one, product_at m p (k + 1) taps lanes low)
    (plus_lane (at m k *ℤ at p k) (at m (k + 1) *ℤ at p (k + 1))
    (omega (arith, product_small (at m k) (at p k) (taps.small k) (lanes.small k)))
    (omega (arith, product_small (at m (k + 1)) (at p (k + 1)) (taps.small (k + 1)) (lanes.small (k + 1)))))

neighbour_small : {n : ℕ} (m p : List ℤ) (k : ℕ) → AreLanes n 128 m → AreLanes n 4095 p → k + 1 < n → unsigned_abs (neighbours (products m p) k) ≤ 2 ^ 20
neighbour_small m p k taps lanes low = rw (neighbour_is m p k taps lanes low)
    (omega (
      arith,
      sum_small (at m k *ℤ at p k) (at m (k + 1) *ℤ at p (k + 1)) (2 ^ 19) (2 ^ 19) (product_small (at m k) (at p k) (taps.small k) (lanes.small k))
          (product_small (at m (k + 1)) (at p (k + 1)) (taps.small (k + 1)) (lanes.small (k + 1))),
    ))

pub sums_small : (m p : List ℤ) → AreLanes 16 128 m → AreLanes 16 4095 p → AreLanes 8 (2 ^ 20) (neighbour_sums (products m p))
sums_small m p taps lanes = lanes_of 8 (2 ^ 20) (neighbour_sums (products m p)) refl
    (f 0 (omega arith), (f 2 (omega arith), (f 4 (omega arith), (f 6 (omega arith), (f 8 (omega arith), (f 10 (omega arith), (f 12 (omega arith), (f 14 (omega arith), tt))))))))
  where
    f : (k : ℕ) → k + 1 < 16 → unsigned_abs (neighbours (products m p) k) ≤ 2 ^ 20
    f k low = neighbour_small m p k taps lanes low

pub sums_are : (m p : List ℤ) → AreLanes 16 128 m → AreLanes 16 4095 p → (j : ℕ) → j < 8 →
    at (neighbour_sums (products m p)) j ≡ (at m (2 * j) *ℤ at p (2 * j)) +ℤ (at m (2 * j + 1) *ℤ at p (2 * j + 1))
sums_are m p taps lanes = each_eight (λ j. at (neighbour_sums (products m p)) j ≡ (at m (2 * j) *ℤ at p (2 * j)) +ℤ (at m (2 * j + 1) *ℤ at p (2 * j + 1)))
    (f 0 (omega arith)) (f 2 (omega arith)) (f 4 (omega arith)) (f 6 (omega arith)) (f 8 (omega arith)) (f 10 (omega arith)) (f 12 (omega arith)) (f 14 (omega arith))
  where
    f : (k : ℕ) → k + 1 < 16 → neighbours (products m p) k ≡ (at m k *ℤ at p k) +ℤ (at m (k + 1) *ℤ at p (k + 1))
    f k low = neighbour_is m p k taps lanes low

-- a load
abbrev pub loaded : ℕ → List ℕ → ℕ → List ℤ
loaded n xs place = map (to_z w16) (map (act1 (cast unsigned signed w16) (s_int w16) (s_int w16)) (chunk place n xs))

pub load_is : (n : ℕ) (xs : List ℕ) (place : ℕ) → ((k : ℕ) → get_or xs k 0 ≤ 4095) → place + n ≤ length xs → (j : ℕ) → j < n → at (loaded n xs place) j ≡ pos (get_or xs (place + j) 0)
load_is n xs place small room j low =
    let f = act1 (cast unsigned signed w16) (s_int w16) (s_int w16) in
    let long = length-chunk place n xs room in
    get_or-map (to_z w16) (map f (chunk place n xs)) j 0 (pos 0) (omega (arith, length-map (chunk place n xs) f, long))
    ∙ ap (to_z w16) (get_or-map f (chunk place n xs) j 0 0 (omega (arith, long)) ∙ ap f (get_or-chunk place n xs j 0 low)) ∙ taken_lane (get_or xs (place + j) 0) (small (place + j))

pub load_lanes : (n : ℕ) (xs : List ℕ) (place : ℕ) → ((k : ℕ) → get_or xs k 0 ≤ 4095) → place + n ≤ length xs → AreLanes n 4095 (loaded n xs place)
load_lanes n xs place small room =
    let f = act1 (cast unsigned signed w16) (s_int w16) (s_int w16) in
    let long : length (loaded n xs place) ≡ n = length-map (map f (chunk place n xs)) (to_z w16) ∙ length-map (chunk place n xs) f ∙ length-chunk place n xs room in
    record {
      long = long;
      small = λ j. elim (cases_lt j n) [
        | inl low ↦ rw (load_is n xs place small room j low) (small (place + j))
        | inr past ↦ rw (get_or_past (loaded n xs place) j (pos 0) (omega arith)) (omega arith)
      ];
    }

pub load_asks : (n : ℕ) (xs : List ℕ) (place : ℕ) → ((k : ℕ) → get_or xs k 0 ≤ 4095) → place + n ≤ length xs → Each1 (Asks1 (cast unsigned signed w16) (s_int w16)) (chunk place n xs)
load_asks n xs place small room = Each1-from_get_or (Asks1 (cast unsigned signed w16) (s_int w16)) (chunk place n xs) 0
    (λ k low. let few : k < n = omega (arith, length-chunk place n xs room) in rw (get_or-chunk place n xs k 0 few) (asked_lane (get_or xs (place + k) 0) (small (place + k))))

-- sums of two vectors
abbrev pub added : List ℤ → List ℤ → List ℤ
added a b = map (to_z w32) (zip2 (act2 wrap_add (s_int w32) (s_int w32) (s_int w32)) (map (of_z w32) a) (map (of_z w32) b))

pub added_is : {n : ℕ} (a b : List ℤ) (most : ℕ) → most ≤ 2 ^ 21 → AreLanes n most a → AreLanes n most b → (j : ℕ) → j < n → at (added a b) j ≡ at a j +ℤ at b j
added_is {n} a b most few lanes others j low =
    let f = act2 wrap_add (s_int w32) (s_int w32) (s_int w32) in
    let long_a : length (map (of_z w32) a) ≡ n = length-map a (of_z w32) ∙ lanes.long in
    let long_b : length (map (of_z w32) b) ≡ n = length-map b (of_z w32) ∙ others.long in
    get_or-map (to_z w32) (zip2 f (map (of_z w32) a) (map (of_z w32) b)) j 0 (pos 0) (omega (arith, length-zip2 f (map (of_z w32) a) (map (of_z w32) b) (long_a ∙ sym long_b), long_a))
    ∙ ap (to_z w32) (get_or-zip2 f (map (of_z w32) a) (map (of_z w32) b) j 0 0 0 (omega (arith, long_a)) (omega (arith, long_b))
    ∙ rw (get_or-map (of_z w32) a j (pos 0) 0 (omega (arith, lanes.long)), get_or-map (of_z w32) b j (pos 0) 0 (omega (arith, others.long))) refl)
    ∙ plus_lane (at a j) (at b j) (omega (arith, lanes.small j, few)) (omega (arith, others.small j, few))

pub added_lanes : {n : ℕ} (a b : List ℤ) (most : ℕ) → most ≤ 2 ^ 21 → AreLanes n most a → AreLanes n most b → AreLanes n (2 * most) (added a b)
added_lanes {n} a b most few lanes others =
    let f = act2 wrap_add (s_int w32) (s_int w32) (s_int w32) in
    let long_a : length (map (of_z w32) a) ≡ n = length-map a (of_z w32) ∙ lanes.long in
    let long_b : length (map (of_z w32) b) ≡ n = length-map b (of_z w32) ∙ others.long in
    let long : length (added a b) ≡ n = length-map (zip2 f (map (of_z w32) a) (map (of_z w32) b)) (to_z w32) ∙ length-zip2 f (map (of_z w32) a) (map (of_z w32) b) (long_a ∙ sym long_b) ∙ long_a in
    record {
      long = long;
      small = λ j. elim (cases_lt j n) [
        | inl low ↦ rw (added_is a b most few lanes others j low) (omega (arith, sum_small (at a j) (at b j) most most (lanes.small j) (others.small j)))
        | inr past ↦ rw (get_or_past (added a b) j (pos 0) (omega arith)) (omega arith)
      ];
    }

-- vectors that go from one call to the next
abbrev pub kept_16 : List ℤ → List ℤ
kept_16 v = map (to_z w16) (map (of_z w16) v)

abbrev pub kept_32 : List ℤ → List ℤ
kept_32 v = map (to_z w32) (map (of_z w32) v)

pub same_16 : (v : List ℤ) → ((j : ℕ) → unsigned_abs (get_or v j (pos 0)) ≤ 4095) → kept_16 v ≡ v
same_16 [] small = refl
same_16 (x ∷ v) small = rw (to_z-of_z w16 x (fits_16 x (small 0))) (ap (λ (u : List ℤ). x ∷ u) (same_16 v (λ j. small (suc j))))

pub same_32 : (v : List ℤ) → ((j : ℕ) → unsigned_abs (get_or v j (pos 0)) ≤ 2 ^ 24) → kept_32 v ≡ v
same_32 [] small = refl
same_32 (x ∷ v) small = rw (to_z-of_z w32 x (fits_32 x (small 0))) (ap (λ (u : List ℤ). x ∷ u) (same_32 v (λ j. small (suc j))))

pub samples_kept : {n : ℕ} (v : List ℤ) → AreLanes n 4095 v → kept_16 v ≡ v
samples_kept v lanes = same_16 v lanes.small

pub taps_kept : {n : ℕ} (v : List ℤ) → AreLanes n 128 v → kept_16 v ≡ v
taps_kept v lanes = same_16 v (λ j. omega (arith, lanes.small j))

pub sums_kept : {n : ℕ} (v : List ℤ) (most : ℕ) → most ≤ 2 ^ 24 → AreLanes n most v → kept_32 v ≡ v
sums_kept v most few lanes = same_32 v (λ j. omega (arith, few, lanes.small j))

pub samples_again : {n : ℕ} (v : List ℤ) → AreLanes n 4095 v → AreLanes n 4095 (kept_16 v)
samples_again v lanes = rw (samples_kept v lanes) lanes

pub taps_again : {n : ℕ} (v : List ℤ) → AreLanes n 128 v → AreLanes n 128 (kept_16 v)
taps_again v lanes = rw (taps_kept v lanes) lanes

pub sums_again : {n : ℕ} (v : List ℤ) (most : ℕ) → most ≤ 2 ^ 24 → AreLanes n most v → AreLanes n most (kept_32 v)
sums_again v most few lanes = rw (sums_kept v most few lanes) lanes

pub turned_again : {n : ℕ} (v : List ℤ) → IsTurned n v → IsTurned n (kept_16 v)
turned_again v turned = rw (taps_kept v turned.lanes) turned

-- a sum of two weighted samples, by what each step says of it
pub pair_value : (taps w p q : List ℤ) (a b i j : ℕ) (r : List ℤ) → j < 8 → IsTurned 8 taps → AreLanes 16 4095 w → AreLanes 16 4095 p → AreLanes 16 4095 q → AreLanes 8 (2 ^ 20) r →
    at r j ≡ (at (kept_16 taps) (2 * j) *ℤ at (kept_16 w) (2 * j)) +ℤ (at (kept_16 taps) (2 * j + 1) *ℤ at (kept_16 w) (2 * j + 1)) →
    at w (2 * j) ≡ at (kept_16 p) i → at w (2 * j + 1) ≡ at (kept_16 q) i → at p i ≡ pos a → at q i ≡ pos b →
    at (kept_32 r) j ≡ (at taps 0 *ℤ pos a) +ℤ (at taps 1 *ℤ pos b)
pair_value taps w p q a b i j r low turned w_lanes p_lanes q_lanes r_lanes sum even odd first second =
    let is = rw (taps_kept taps turned.lanes, samples_kept w w_lanes) at sum in
    let even_is = rw (samples_kept p p_lanes) at even in
    let odd_is = rw (samples_kept q q_lanes) at odd in
    rw (sums_kept r (2 ^ 20) (omega arith) r_lanes, is, turned.even j low, turned.odd j low, even_is, odd_is, first, second) refl

-- a sum of four values
pub four_value : {n : ℕ} (p q r s a b v : List ℤ) (j : ℕ) → AreLanes n (2 ^ 20) p → AreLanes n (2 ^ 20) q → AreLanes n (2 ^ 20) r → AreLanes n (2 ^ 20) s →
    AreLanes n (2 ^ 21) a → AreLanes n (2 ^ 21) b → AreLanes n (2 ^ 22) v →
    at a j ≡ at (kept_32 p) j +ℤ at (kept_32 q) j → at b j ≡ at (kept_32 r) j +ℤ at (kept_32 s) j → at v j ≡ at (kept_32 a) j +ℤ at (kept_32 b) j →
    at (kept_32 v) j ≡ (at p j +ℤ at q j) +ℤ (at r j +ℤ at s j)
four_value p q r s a b v j p_lanes q_lanes r_lanes s_lanes a_lanes b_lanes v_lanes first second whole =
    let first_is = rw (sums_kept p (2 ^ 20) (omega arith) p_lanes, sums_kept q (2 ^ 20) (omega arith) q_lanes) at first in
    let second_is = rw (sums_kept r (2 ^ 20) (omega arith) r_lanes, sums_kept s (2 ^ 20) (omega arith) s_lanes) at second in
    let whole_is = rw (sums_kept a (2 ^ 21) (omega arith) a_lanes, sums_kept b (2 ^ 21) (omega arith) b_lanes) at whole in
    rw (sums_kept v (2 ^ 22) (omega arith) v_lanes, whole_is, first_is, second_is) refl

pub turns_are : (s t : ℤ) → unsigned_abs s ≤ 128 → unsigned_abs t ≤ 128 →
    AreTurns 8 s t (s ∷ t ∷ s ∷ t ∷ s ∷ t ∷ s ∷ t ∷ s ∷ t ∷ s ∷ t ∷ s ∷ t ∷ s ∷ t ∷ [])
turns_are s t one other = record {
  lanes = lanes_of 16 128 (s ∷ t ∷ s ∷ t ∷ s ∷ t ∷ s ∷ t ∷ s ∷ t ∷ s ∷ t ∷ s ∷ t ∷ s ∷ t ∷ []) refl
      (one, (other, (one, (other, (one, (other, (one, (other, (one, (other, (one, (other, (one, (other, (one, (other, tt))))))))))))))));
  even = each_eight (λ j. at (s ∷ t ∷ s ∷ t ∷ s ∷ t ∷ s ∷ t ∷ s ∷ t ∷ s ∷ t ∷ s ∷ t ∷ s ∷ t ∷ []) (2 * j) ≡ s) refl refl refl refl refl refl refl refl;
  odd = each_eight (λ j. at (s ∷ t ∷ s ∷ t ∷ s ∷ t ∷ s ∷ t ∷ s ∷ t ∷ s ∷ t ∷ s ∷ t ∷ s ∷ t ∷ []) (2 * j + 1) ≡ t) refl refl refl refl refl refl refl refl;
}

pub turns_kept : (s t : ℤ) → unsigned_abs s ≤ 128 → unsigned_abs t ≤ 128 →
    AreTurns 8 s t (kept_16 (s ∷ t ∷ s ∷ t ∷ s ∷ t ∷ s ∷ t ∷ s ∷ t ∷ s ∷ t ∷ s ∷ t ∷ s ∷ t ∷ []))
turns_kept s t one other = rw (tap_kept s one, tap_kept t other) (turns_are s t one other)

-- two taps by turns start with them
pub turned_of : (s t : ℤ) (v : List ℤ) → AreTurns 8 s t v → IsTurned 8 v
turned_of s t v turns = rw (turns.even 0 (omega arith), turns.odd 0 (omega arith)) turns

pair_moved : {h : ℕ} (v w : List ℤ) (xs : List ℕ) (z : ℤ) (a b m n : ℕ) → IsTurned h v → v ≡ w → a ≡ m → b ≡ n →
    z ≡ (at (kept_16 v) 0 *ℤ pos (get_or xs a 0)) +ℤ (at (kept_16 v) 1 *ℤ pos (get_or xs b 0)) →
    z ≡ (at w 0 *ℤ pos (get_or xs m 0)) +ℤ (at w 1 *ℤ pos (get_or xs n 0))
pair_moved v w xs z a b m n turned same here there is = rw (sym same, sym here, sym there) (rw (taps_kept v turned.lanes) at is)

-- one of sixteen values, by what each step says of it
pub sixteen_value : (most : ℕ) (taps first second third fourth : List ℤ) (xs : List ℕ) (place step i j x : ℕ) (p q r s v : List ℤ) →
    taps_in first second third fourth ≡ taps → IsTurned 8 first → IsTurned 8 second → IsTurned 8 third → IsTurned 8 fourth →
    AreLanes 8 (2 ^ 20) p → AreLanes 8 (2 ^ 20) q → AreLanes 8 (2 ^ 20) r → AreLanes 8 (2 ^ 20) s → AreLanes 8 (2 ^ 22) v →
    x ≡ rounded most (at (kept_32 v) j) →
    at v j ≡ (at (kept_32 p) j +ℤ at (kept_32 q) j) +ℤ (at (kept_32 r) j +ℤ at (kept_32 s) j) →
    at p j ≡ (at (kept_16 first) 0 *ℤ pos (get_or xs (place + i) 0)) +ℤ (at (kept_16 first) 1 *ℤ pos (get_or xs (place + step + i) 0)) →
    at q j ≡ (at (kept_16 second) 0 *ℤ pos (get_or xs (place + 2 * step + i) 0)) +ℤ (at (kept_16 second) 1 *ℤ pos (get_or xs (place + 2 * step + step + i) 0)) →
    at r j ≡ (at (kept_16 third) 0 *ℤ pos (get_or xs (place + 4 * step + i) 0)) +ℤ (at (kept_16 third) 1 *ℤ pos (get_or xs (place + 4 * step + step + i) 0)) →
    at s j ≡ (at (kept_16 fourth) 0 *ℤ pos (get_or xs (place + 6 * step + i) 0)) +ℤ (at (kept_16 fourth) 1 *ℤ pos (get_or xs (place + 6 * step + step + i) 0)) →
    x ≡ filtered most taps (λ k. get_or xs (place + k * step + i) 0)
sixteen_value most taps first second third fourth xs place step i j x p q r s v view one two three four p_lanes q_lanes r_lanes s_lanes v_lanes value sum p_is q_is r_is s_is =
    let value_is = rw (sums_kept v (2 ^ 22) (omega arith) v_lanes) at value in
    let sum_is = rw (
      sums_kept p (2 ^ 20) (omega arith) p_lanes,
      sums_kept q (2 ^ 20) (omega arith) q_lanes,
      sums_kept r (2 ^ 20) (omega arith) r_lanes,
      sums_kept s (2 ^ 20) (omega arith) s_lanes,
    ) at sum in
    value_is ∙ ap (rounded most) (
    eight_is (taps_in first second third fourth) (λ k. get_or xs (place + k * step + i) 0) (at p j) (at q j) (at r j) (at s j) (at v j) sum_is
    (pair_moved first first xs (at p j) (place + i) (place + step + i) (place + 0 * step + i) (place + 1 * step + i) one refl (omega arith) (omega arith) p_is)
    (pair_moved second second xs (at q j) (place + 2 * step + i) (place + 2 * step + step + i) (place + 2 * step + i) (place + 3 * step + i) two refl (omega arith) (omega arith) q_is)
    (pair_moved third third xs (at r j) (place + 4 * step + i) (place + 4 * step + step + i) (place + 4 * step + i) (place + 5 * step + i) three refl (omega arith) (omega arith) r_is)
    (pair_moved fourth fourth xs (at s j) (place + 6 * step + i) (place + 6 * step + step + i) (place + 6 * step + i) (place + 7 * step + i) four refl (omega arith) (omega arith) s_is))
    ∙ ap (λ (ts : List ℤ). filtered most ts (λ k. get_or xs (place + k * step + i) 0)) view

eight_values : (xs : List ℤ) → length xs ≡ 8 → at xs 0 ∷ at xs 1 ∷ at xs 2 ∷ at xs 3 ∷ at xs 4 ∷ at xs 5 ∷ at xs 6 ∷ at xs 7 ∷ [] ≡ xs
eight_values [] size = absurd (omega arith)
eight_values (a ∷ []) size = absurd (omega arith)
eight_values (a ∷ b ∷ []) size = absurd (omega arith)
eight_values (a ∷ b ∷ c ∷ []) size = absurd (omega arith)
eight_values (a ∷ b ∷ c ∷ d ∷ []) size = absurd (omega arith)
eight_values (a ∷ b ∷ c ∷ d ∷ e ∷ []) size = absurd (omega arith)
eight_values (a ∷ b ∷ c ∷ d ∷ e ∷ f ∷ []) size = absurd (omega arith)
eight_values (a ∷ b ∷ c ∷ d ∷ e ∷ f ∷ g ∷ []) size = absurd (omega arith)
eight_values (a ∷ b ∷ c ∷ d ∷ e ∷ f ∷ g ∷ h ∷ []) size = refl
eight_values (a ∷ b ∷ c ∷ d ∷ e ∷ f ∷ g ∷ h ∷ i ∷ xs) size = absurd (omega arith)

abbrev pub tap_again : List ℤ → ℕ → ℤ
tap_again taps k = to_z w16 (of_z w16 (get_or taps k (pos 0)))

-- the taps of four vectors that were made of eight taps
pub taps_made : (taps p q r s : List ℤ) → length taps ≡ 8 → ((k : ℕ) → unsigned_abs (get_or taps k (pos 0)) ≤ 128) →
    AreTurns 8 (tap_again taps 0) (tap_again taps 1) p → AreTurns 8 (tap_again taps 2) (tap_again taps 3) q →
    AreTurns 8 (tap_again taps 4) (tap_again taps 5) r → AreTurns 8 (tap_again taps 6) (tap_again taps 7) s →
    taps_in (kept_16 p) (kept_16 q) (kept_16 r) (kept_16 s) ≡ taps
taps_made taps p q r s size small p_turns q_turns r_turns s_turns =
    rw (taps_kept p p_turns.lanes, taps_kept q q_turns.lanes, taps_kept r r_turns.lanes, taps_kept s s_turns.lanes)
    (rw (
      even p _ _ p_turns ∙ tap 0,
      odd p _ _ p_turns ∙ tap 1,
      even q _ _ q_turns ∙ tap 2,
      odd q _ _ q_turns ∙ tap 3,
      even r _ _ r_turns ∙ tap 4,
      odd r _ _ r_turns ∙ tap 5,
      even s _ _ s_turns ∙ tap 6,
      odd s _ _ s_turns ∙ tap 7,
    ) (eight_values taps size))
  where
    tap : (k : ℕ) → tap_again taps k ≡ at taps k
    tap k = tap_kept (at taps k) (small k)

    even : (v : List ℤ) (a b : ℤ) → AreTurns 8 a b v → at v 0 ≡ a
    even v a b turns = turns.even 0 (omega arith)

    odd : (v : List ℤ) (a b : ℤ) → AreTurns 8 a b v → at v 1 ≡ b
    odd v a b turns = turns.odd 0 (omega arith)

-- a sum of two weighted neighbours, by what each step says of it
pub neighbours_value : {h : ℕ} (taps p : List ℤ) (a b j : ℕ) (r : List ℤ) → j < h → IsTurned h taps → AreLanes (2 * h) 4095 p → AreLanes h (2 ^ 20) r →
    at r j ≡ (at (kept_16 taps) (2 * j) *ℤ at (kept_16 p) (2 * j)) +ℤ (at (kept_16 taps) (2 * j + 1) *ℤ at (kept_16 p) (2 * j + 1)) →
    at p (2 * j) ≡ pos a → at p (2 * j + 1) ≡ pos b → at (kept_32 r) j ≡ (at taps 0 *ℤ pos a) +ℤ (at taps 1 *ℤ pos b)
neighbours_value taps p a b j r low turned p_lanes r_lanes sum first second =
    let is = rw (taps_kept taps turned.lanes, samples_kept p p_lanes) at sum in
    rw (sums_kept r (2 ^ 20) (omega arith) r_lanes, is, turned.even j low, turned.odd j low, first, second) refl

-- a sum of eight weighted samples of a row, by what each step says of it
pub along_value : {h : ℕ} (taps first second third fourth : List ℤ) (xs : List ℕ) (place j : ℕ) (p q r s v : List ℤ) →
    taps_in first second third fourth ≡ taps → IsTurned h first → IsTurned h second → IsTurned h third → IsTurned h fourth →
    AreLanes h (2 ^ 20) p → AreLanes h (2 ^ 20) q → AreLanes h (2 ^ 20) r → AreLanes h (2 ^ 20) s → AreLanes h (2 ^ 22) v →
    at v j ≡ (at (kept_32 p) j +ℤ at (kept_32 q) j) +ℤ (at (kept_32 r) j +ℤ at (kept_32 s) j) →
    at p j ≡ (at (kept_16 first) 0 *ℤ pos (get_or xs (place + 2 * j) 0)) +ℤ (at (kept_16 first) 1 *ℤ pos (get_or xs (place + (2 * j + 1)) 0)) →
    at q j ≡ (at (kept_16 second) 0 *ℤ pos (get_or xs (place + 2 + 2 * j) 0)) +ℤ (at (kept_16 second) 1 *ℤ pos (get_or xs (place + 2 + (2 * j + 1)) 0)) →
    at r j ≡ (at (kept_16 third) 0 *ℤ pos (get_or xs (place + 4 + 2 * j) 0)) +ℤ (at (kept_16 third) 1 *ℤ pos (get_or xs (place + 4 + (2 * j + 1)) 0)) →
    at s j ≡ (at (kept_16 fourth) 0 *ℤ pos (get_or xs (place + 6 + 2 * j) 0)) +ℤ (at (kept_16 fourth) 1 *ℤ pos (get_or xs (place + 6 + (2 * j + 1)) 0)) →
    at (kept_32 v) j ≡ weighted taps (λ k. get_or xs (place + (2 * j + k)) 0)
along_value taps first second third fourth xs place j p q r s v view one two three four p_lanes q_lanes r_lanes s_lanes v_lanes sum p_is q_is r_is s_is =
    let sum_is = rw (
      sums_kept p (2 ^ 20) (omega arith) p_lanes,
      sums_kept q (2 ^ 20) (omega arith) q_lanes,
      sums_kept r (2 ^ 20) (omega arith) r_lanes,
      sums_kept s (2 ^ 20) (omega arith) s_lanes,
    ) at sum in
    rw (sums_kept v (2 ^ 22) (omega arith) v_lanes) (
    eight_is (taps_in first second third fourth) (λ k. get_or xs (place + (2 * j + k)) 0) (at p j) (at q j) (at r j) (at s j) (at v j) sum_is
    (pair_moved first first xs (at p j) (place + 2 * j) (place + (2 * j + 1)) (place + (2 * j + 0)) (place + (2 * j + 1)) one refl (omega arith) refl p_is)
    (pair_moved second second xs (at q j) (place + 2 + 2 * j) (place + 2 + (2 * j + 1)) (place + (2 * j + 2)) (place + (2 * j + 3)) two refl (omega arith) (omega arith) q_is)
    (pair_moved third third xs (at r j) (place + 4 + 2 * j) (place + 4 + (2 * j + 1)) (place + (2 * j + 4)) (place + (2 * j + 5)) three refl (omega arith) (omega arith) r_is)
    (pair_moved fourth fourth xs (at s j) (place + 6 + 2 * j) (place + 6 + (2 * j + 1)) (place + (2 * j + 6)) (place + (2 * j + 7)) four refl (omega arith) (omega arith) s_is)
    ∙ ap (λ (ts : List ℤ). weighted ts (λ k. get_or xs (place + (2 * j + k)) 0)) view)

weighted_same : (taps : List ℤ) (f g : ℕ → ℕ) → ((k : ℕ) → f k ≡ g k) → weighted taps f ≡ weighted taps g
unfolding weighted
weighted_same taps f g same = rw (same 0, same 1, same 2, same 3, same 4, same 5, same 6, same 7) refl

pub turn_value : {n : ℕ} (most : ℕ) (taps : List ℤ) (xs : List ℕ) (i j x place from : ℕ) (v : List ℤ) → AreLanes n (2 ^ 22) v →
    ((k : ℕ) → from + (2 * j + k) ≡ place + (i + k)) → x ≡ rounded most (at (kept_32 v) j) → at v j ≡ weighted taps (λ k. get_or xs (from + (2 * j + k)) 0) →
    x ≡ filtered most taps (λ k. get_or xs (place + (i + k)) 0)
turn_value most taps xs i j x place from v lanes moved value sum =
    let value_is = rw (sums_kept v (2 ^ 22) (omega arith) lanes) at value in
    value_is ∙ ap (rounded most) (sum ∙ weighted_same taps (λ k. get_or xs (from + (2 * j + k)) 0) (λ k. get_or xs (place + (i + k)) 0)
    (λ k. ap (λ (z : ℕ). get_or xs z 0) (moved k)))

pub halves : (j : ℕ) → (2 * (j / 2) ≡ j) ⊎ (2 * (j / 2) + 1 ≡ j)
halves j = elim (cases_lt (2 * (j / 2)) j) [
  | inl odd ↦ inr (omega arith)
  | inr even ↦ inl (omega arith)
]

-- half of a vector of two taps by turns
each_four : (P : ℕ → Type 0) → P 0 → P 1 → P 2 → P 3 → (j : ℕ) → j < 4 → P j
each_four P a b c d zero low = a
each_four P a b c d (suc zero) low = b
each_four P a b c d (suc (suc zero)) low = c
each_four P a b c d (suc (suc (suc zero))) low = d
each_four P a b c d (suc (suc (suc (suc j)))) low = absurd (omega arith)

abbrev pub first_eight : List ℤ → List ℤ
first_eight v = joined v v 0 ∷ joined v v 1 ∷ joined v v 2 ∷ joined v v 3 ∷ joined v v 4 ∷ joined v v 5 ∷ joined v v 6 ∷ joined v v 7 ∷ []

up_to_16 : (v : List ℤ) → AreLanes 16 128 v → AreLanes 16 4095 v
up_to_16 v lanes = record { long = lanes.long; small = λ j. omega (arith, lanes.small j) }

half_turns : (v : List ℤ) → IsTurned 8 v → AreTurns 4 (at v 0) (at v 1) (first_eight v)
half_turns v turned = record {
  lanes = lanes_of 8 128 (first_eight v) refl
      (f 0 (omega arith), (f 1 (omega arith), (f 2 (omega arith), (f 3 (omega arith), (f 4 (omega arith), (f 5 (omega arith), (f 6 (omega arith), (f 7 (omega arith), tt))))))));
  even = each_four (λ j. at (first_eight v) (2 * j) ≡ at v 0) (is 0 (omega arith)) (is 2 (omega arith) ∙ turned.even 1 (omega arith))
      (is 4 (omega arith) ∙ turned.even 2 (omega arith)) (is 6 (omega arith) ∙ turned.even 3 (omega arith));
  odd = each_four (λ j. at (first_eight v) (2 * j + 1) ≡ at v 1) (is 1 (omega arith)) (is 3 (omega arith) ∙ turned.odd 1 (omega arith))
      (is 5 (omega arith) ∙ turned.odd 2 (omega arith)) (is 7 (omega arith) ∙ turned.odd 3 (omega arith));
}
  where
    is : (k : ℕ) → k < 16 → joined v v k ≡ at v k
    is k low = front v v k (up_to_16 v turned.lanes) low

    f : (k : ℕ) → k < 16 → unsigned_abs (joined v v k) ≤ 128
    f k low = rw (is k low) (turned.lanes.small k)

turned_of_4 : (s t : ℤ) (v : List ℤ) → AreTurns 4 s t v → IsTurned 4 v
turned_of_4 s t v turns = rw (turns.even 0 (omega arith), turns.odd 0 (omega arith)) turns

pub half_turned : (v : List ℤ) → IsTurned 8 v → IsTurned 4 (first_eight v)
half_turned v turned = turned_of_4 (at v 0) (at v 1) (first_eight v) (half_turns v turned)

pub half_starts : (v : List ℤ) → AreLanes 16 128 v → (at (first_eight v) 0 ≡ at v 0) × (at (first_eight v) 1 ≡ at v 1)
half_starts v lanes = (front v v 0 (up_to_16 v lanes) (omega arith), front v v 1 (up_to_16 v lanes) (omega arith))

abbrev pub neighbour_sums_4 : List ℕ → List ℤ
neighbour_sums_4 z = neighbours z 0 ∷ neighbours z 2 ∷ neighbours z 4 ∷ neighbours z 6 ∷ []

pub sums_4_small : (m p : List ℤ) → AreLanes 8 128 m → AreLanes 8 4095 p → AreLanes 4 (2 ^ 20) (neighbour_sums_4 (products m p))
sums_4_small m p taps lanes = lanes_of 4 (2 ^ 20) (neighbour_sums_4 (products m p)) refl (f 0 (omega arith), (f 2 (omega arith), (f 4 (omega arith), (f 6 (omega arith), tt))))
  where
    f : (k : ℕ) → k + 1 < 8 → unsigned_abs (neighbours (products m p) k) ≤ 2 ^ 20
    f k low = neighbour_small m p k taps lanes low

pub sums_4_are : (m p : List ℤ) → AreLanes 8 128 m → AreLanes 8 4095 p → (j : ℕ) → j < 4 →
    at (neighbour_sums_4 (products m p)) j ≡ (at m (2 * j) *ℤ at p (2 * j)) +ℤ (at m (2 * j + 1) *ℤ at p (2 * j + 1))
sums_4_are m p taps lanes = each_four (λ j. at (neighbour_sums_4 (products m p)) j ≡ (at m (2 * j) *ℤ at p (2 * j)) +ℤ (at m (2 * j + 1) *ℤ at p (2 * j + 1)))
    (f 0 (omega arith)) (f 2 (omega arith)) (f 4 (omega arith)) (f 6 (omega arith))
  where
    f : (k : ℕ) → k + 1 < 8 → neighbours (products m p) k ≡ (at m k *ℤ at p k) +ℤ (at m (k + 1) *ℤ at p (k + 1))
    f k low = neighbour_is m p k taps lanes low

-- the same by the first halves of the vectors of taps
pub half_value : (taps first second third fourth a b c d : List ℤ) (xs : List ℕ) (place j : ℕ) (p q r s v : List ℤ) →
    taps_in first second third fourth ≡ taps → IsTurned 8 first → IsTurned 8 second → IsTurned 8 third → IsTurned 8 fourth →
    IsTurned 4 a → IsTurned 4 b → IsTurned 4 c → IsTurned 4 d →
    at a 0 ≡ at (kept_16 first) 0 → at a 1 ≡ at (kept_16 first) 1 → at b 0 ≡ at (kept_16 second) 0 → at b 1 ≡ at (kept_16 second) 1 →
    at c 0 ≡ at (kept_16 third) 0 → at c 1 ≡ at (kept_16 third) 1 → at d 0 ≡ at (kept_16 fourth) 0 → at d 1 ≡ at (kept_16 fourth) 1 →
    AreLanes 4 (2 ^ 20) p → AreLanes 4 (2 ^ 20) q → AreLanes 4 (2 ^ 20) r → AreLanes 4 (2 ^ 20) s → AreLanes 4 (2 ^ 22) v →
    at v j ≡ (at (kept_32 p) j +ℤ at (kept_32 q) j) +ℤ (at (kept_32 r) j +ℤ at (kept_32 s) j) →
    at p j ≡ (at (kept_16 a) 0 *ℤ pos (get_or xs (place + 2 * j) 0)) +ℤ (at (kept_16 a) 1 *ℤ pos (get_or xs (place + (2 * j + 1)) 0)) →
    at q j ≡ (at (kept_16 b) 0 *ℤ pos (get_or xs (place + 2 + 2 * j) 0)) +ℤ (at (kept_16 b) 1 *ℤ pos (get_or xs (place + 2 + (2 * j + 1)) 0)) →
    at r j ≡ (at (kept_16 c) 0 *ℤ pos (get_or xs (place + 4 + 2 * j) 0)) +ℤ (at (kept_16 c) 1 *ℤ pos (get_or xs (place + 4 + (2 * j + 1)) 0)) →
    at s j ≡ (at (kept_16 d) 0 *ℤ pos (get_or xs (place + 6 + 2 * j) 0)) +ℤ (at (kept_16 d) 1 *ℤ pos (get_or xs (place + 6 + (2 * j + 1)) 0)) →
    at (kept_32 v) j ≡ weighted taps (λ k. get_or xs (place + (2 * j + k)) 0)
half_value taps first second third fourth a b c d xs place j p q r s v view one two three four a_turned b_turned c_turned d_turned a0 a1 b0 b1 c0 c1 d0 d1 =
    along_value taps a b c d xs place j p q r s v
    (rw (
      rw (taps_kept first one.lanes) at a0,
      rw (taps_kept first one.lanes) at a1,
      rw (taps_kept second two.lanes) at b0,
      rw (taps_kept second two.lanes) at b1,
      rw (taps_kept third three.lanes) at c0,
      rw (taps_kept third three.lanes) at c1,
      rw (taps_kept fourth four.lanes) at d0,
      rw (taps_kept fourth four.lanes) at d1,
    ) view)
    a_turned b_turned c_turned d_turned

-- the less of two numbers of 16 bits
abbrev pub least : ℕ → ℕ → ℕ
least most x = cond (top 15 (cond (ltb x most) 65535 0)) x most

least_is : (most x : ℕ) → least most x ≡ min most x
least_is most x = elim (cases_Bool (ltb x most)) [
  | inl one ↦ rw one (omega (arith, ltb-true x most one))
  | inr none ↦ rw none (omega (arith, ltb-false x most none))
]

abbrev pub least_of : ℕ → List ℕ → List ℕ → ℕ → ℕ
least_of most p q k = least most (get_or (p ++ q) k 0)

least_front : (most : ℕ) (p q : List ℕ) (k : ℕ) → length p ≡ 8 → k < 8 → least_of most p q k ≡ min most (get_or p k 0)
least_front most p q k long low = least_is most (get_or (p ++ q) k 0) ∙ ap (min most) (get_or_append_left p q 0 k (omega (arith, long)))

least_behind : (most : ℕ) (p q : List ℕ) (n k : ℕ) → length p ≡ 8 → n ≡ 8 + k → least_of most p q n ≡ min most (get_or q k 0)
least_behind most p q n k long is = let past : n ≡ length p + k = omega (arith, long, is) in
    least_is most (get_or (p ++ q) n 0) ∙ ap (min most) (ap (λ i. get_or (p ++ q) i 0) past ∙ get_or-append-add p q k 0)

abbrev pub least_fours : ℕ → List ℕ → List ℕ → List ℕ
least_fours most p q = least_of most p q 0 ∷ least_of most p q 1 ∷ least_of most p q 2 ∷ least_of most p q 3 ∷ least_of most p q 8 ∷ least_of most p q 9 ∷ least_of most p q 10 ∷ least_of most p q 11 ∷ least_of most p q 4 ∷ least_of most p q 5 ∷ least_of most p q 6 ∷ least_of most p q 7 ∷ least_of most p q 12 ∷ least_of most p q 13 ∷ least_of most p q 14 ∷ least_of most p q 15 ∷ []

pub fours_low : (most : ℕ) (p q : List ℕ) → length p ≡ 8 → (j : ℕ) → j < 8 → get_or (least_fours most p q) (low_lane j) 0 ≡ min most (get_or p j 0)
fours_low most p q long = each_eight (λ j. get_or (least_fours most p q) (low_lane j) 0 ≡ min most (get_or p j 0))
    (least_front most p q 0 long (omega arith)) (least_front most p q 1 long (omega arith)) (least_front most p q 2 long (omega arith)) (least_front most p q 3 long (omega arith)) (least_front most p q 4 long (omega arith)) (least_front most p q 5 long (omega arith)) (least_front most p q 6 long (omega arith)) (least_front most p q 7 long (omega arith))

pub fours_high : (most : ℕ) (p q : List ℕ) → length p ≡ 8 → (j : ℕ) → j < 8 → get_or (least_fours most p q) (high_lane j) 0 ≡ min most (get_or q j 0)
fours_high most p q long = each_eight (λ j. get_or (least_fours most p q) (high_lane j) 0 ≡ min most (get_or q j 0))
    (least_behind most p q 8 0 long (omega arith)) (least_behind most p q 9 1 long (omega arith)) (least_behind most p q 10 2 long (omega arith)) (least_behind most p q 11 3 long (omega arith)) (least_behind most p q 12 4 long (omega arith)) (least_behind most p q 13 5 long (omega arith)) (least_behind most p q 14 6 long (omega arith)) (least_behind most p q 15 7 long (omega arith))

abbrev pub least_turns : ℕ → List ℕ → List ℕ → List ℕ
least_turns most p q = least_of most p q 0 ∷ least_of most p q 8 ∷ least_of most p q 1 ∷ least_of most p q 9 ∷ least_of most p q 2 ∷ least_of most p q 10 ∷ least_of most p q 3 ∷ least_of most p q 11 ∷ least_of most p q 4 ∷ least_of most p q 12 ∷ least_of most p q 5 ∷ least_of most p q 13 ∷ least_of most p q 6 ∷ least_of most p q 14 ∷ least_of most p q 7 ∷ least_of most p q 15 ∷ []

pub turns_even : (most : ℕ) (p q : List ℕ) → length p ≡ 8 → (j : ℕ) → j < 8 → get_or (least_turns most p q) (2 * j) 0 ≡ min most (get_or p j 0)
turns_even most p q long = each_eight (λ j. get_or (least_turns most p q) (2 * j) 0 ≡ min most (get_or p j 0))
    (least_front most p q 0 long (omega arith)) (least_front most p q 1 long (omega arith)) (least_front most p q 2 long (omega arith)) (least_front most p q 3 long (omega arith)) (least_front most p q 4 long (omega arith)) (least_front most p q 5 long (omega arith)) (least_front most p q 6 long (omega arith)) (least_front most p q 7 long (omega arith))

pub turns_odd : (most : ℕ) (p q : List ℕ) → length p ≡ 8 → (j : ℕ) → j < 8 → get_or (least_turns most p q) (2 * j + 1) 0 ≡ min most (get_or q j 0)
turns_odd most p q long = each_eight (λ j. get_or (least_turns most p q) (2 * j + 1) 0 ≡ min most (get_or q j 0))
    (least_behind most p q 8 0 long (omega arith)) (least_behind most p q 9 1 long (omega arith)) (least_behind most p q 10 2 long (omega arith)) (least_behind most p q 11 3 long (omega arith)) (least_behind most p q 12 4 long (omega arith)) (least_behind most p q 13 5 long (omega arith)) (least_behind most p q 14 6 long (omega arith)) (least_behind most p q 15 7 long (omega arith))

clip_least : (most : ℕ) (z : ℤ) → most ≤ 65535 → min most (clip 65535 z) ≡ clip most z
clip_least most (pos n) low = omega (arith, low)
clip_least most (negsuc n) low = omega (arith, low)

pub rounded_least : (most : ℕ) (sum : ℤ) → most ≤ 65535 → min most (rounded 65535 sum) ≡ rounded most sum
unfolding rounded
rounded_least most sum low = clip_least most (int_shr (sum +ℤ pos 64) 7) low

pub sum_again : {n : ℕ} (r : List ℤ) (k : ℕ) → AreLanes n (2 ^ 20) r → to_z w32 (of_z w32 (at (kept_32 r) k)) ≡ at r k
sum_again r k lanes = rw (sums_kept r (2 ^ 20) (omega arith) lanes) (to_z-of_z w32 (at r k) (fits_32 (at r k) (omega (arith, lanes.small k))))

-- a sum of eight weighted samples that follow one another, by what each step says of it
pub run_value : (taps p : List ℤ) (xs : List ℕ) (place : ℕ) (r : List ℤ) (v : ℤ) → AreLanes 8 128 taps → AreLanes 8 4095 p → AreLanes 4 (2 ^ 20) r → unsigned_abs v ≤ 2 ^ 22 →
    v ≡ (to_z w32 (of_z w32 (at (kept_32 r) 0)) +ℤ to_z w32 (of_z w32 (at (kept_32 r) 1))) +ℤ (to_z w32 (of_z w32 (at (kept_32 r) 2)) +ℤ to_z w32 (of_z w32 (at (kept_32 r) 3))) →
    ((j : ℕ) → j < 4 → at r j ≡ (at (kept_16 taps) (2 * j) *ℤ at (kept_16 p) (2 * j)) +ℤ (at (kept_16 taps) (2 * j + 1) *ℤ at (kept_16 p) (2 * j + 1))) →
    ((j : ℕ) → j < 8 → at p j ≡ pos (get_or xs (place + j) 0)) → to_z w32 (of_z w32 v) ≡ weighted taps (λ k. get_or xs (place + k) 0)
run_value taps p xs place r v taps_lanes p_lanes r_lanes small whole sums values =
    let sum = rw (sum_again r 0 r_lanes, sum_again r 1 r_lanes, sum_again r 2 r_lanes, sum_again r 3 r_lanes) at whole in
    to_z-of_z w32 v (fits_32 v (omega (arith, small)))
    ∙ eight_is taps (λ k. get_or xs (place + k) 0) (at r 0) (at r 1) (at r 2) (at r 3) v sum (pair 0 (omega arith)) (pair 1 (omega arith)) (pair 2 (omega arith)) (pair 3 (omega arith))
  where
    pair : (j : ℕ) → j < 4 → at r j ≡ (at taps (2 * j) *ℤ pos (get_or xs (place + 2 * j) 0)) +ℤ (at taps (2 * j + 1) *ℤ pos (get_or xs (place + (2 * j + 1)) 0))
    pair j few = let is = rw (taps_kept taps taps_lanes, samples_kept p p_lanes) at (sums j few) in
        is ∙ rw (values (2 * j) (omega (arith, few)), values (2 * j + 1) (omega (arith, few))) refl
