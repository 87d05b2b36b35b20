-- Samples by the numbers that they stand for: one of them put, and a part of them.
use Rattle.std.proofs.Common.{◌≡◌, ◌<◌, ◌≤◌, ◌+◌, ◌-◌, ℕ, List, length, get_or, take, drop, map, ◌++◌, set, replicate, ap, sym, subst, ◌∙◌, refl, arith, inl, inr}
use Rattle.std.proofs.lemmas.Bool.{cases_lt, cases_order}
use Rattle.std.proofs.lemmas.Bool.Decides.{nat_tests}
use Rattle.std.proofs.lemmas.List.{places, map-set, get_or-set_same, get_or-set_other, take-map, drop-map, map-append, length-map, map-id, get_or-take, get_or-drop, get_or_past, get_or-replicate, length-take, length-drop, length-replicate}
use borrow.Rule.Slice.PartMut.{put_mid}

pub put_here : {X : Type 0} (f : X → ℕ) (xs : List X) (i : ℕ) (y : X) → i < length xs → get_or (map f (set xs i y)) i 0 ≡ f y
put_here f xs i y low = rw (map-set f xs i y) (get_or-set_same (map f xs) i (f y) 0 (omega (arith, low, length-map xs f)))

pub put_before : {X : Type 0} (f : X → ℕ) (xs : List X) (i : ℕ) (y : X) (k : ℕ) → k < i → get_or (map f (set xs i y)) k 0 ≡ get_or (map f xs) k 0
put_before f xs i y k low = rw (map-set f xs i y) (get_or-set_other (map f xs) i k (f y) 0 (λ same. omega (arith, low, same)))

pub put_after : {X : Type 0} (f : X → ℕ) (xs : List X) (i : ℕ) (y : X) (k : ℕ) → i < k → get_or (map f (set xs i y)) k 0 ≡ get_or (map f xs) k 0
put_after f xs i y k past = rw (map-set f xs i y) (get_or-set_other (map f xs) i k (f y) 0 (λ same. omega (arith, past, same)))

-- one value more
pub one_more : (f old new : ℕ → ℕ) (from k : ℕ) → ((j : ℕ) → from ≤ j → j < k → old j ≡ f j) → new k ≡ f k → ((j : ℕ) → j < k → new j ≡ old j)
    → (j : ℕ) → from ≤ j → j < k + 1 → new j ≡ f j
one_more f old new from k so here before j high low = elim (cases_lt j k) [
  | inl earlier ↦ before j earlier ∙ so j high earlier
  | inr now ↦ let last : k ≡ j = omega (arith, now, low) in subst (λ (i : ℕ). new i ≡ f i) last here
]

pub first_more : (f old new : ℕ → ℕ) (k : ℕ) → ((j : ℕ) → j < k → old j ≡ f j) → new k ≡ f k → ((j : ℕ) → j < k → new j ≡ old j)
    → (j : ℕ) → j < k + 1 → new j ≡ f j
first_more f old new k so here before j low = one_more f old new 0 k (λ i high. so i) here before j (omega arith) low

-- one number more in a list
pub number_more : (f : ℕ → ℕ) (xs : List ℕ) (k x : ℕ) → k < length xs → ((j : ℕ) → j < k → get_or xs j 0 ≡ f j) → x ≡ f k
    → (j : ℕ) → j < k + 1 → get_or (set xs k x) j 0 ≡ f j
number_more f xs k x low so is = first_more f (λ j. get_or xs j 0) (λ j. get_or (set xs k x) j 0) k so
    (get_or-set_same xs k x 0 low ∙ is) (λ j less. get_or-set_other xs k j x 0 (λ same. omega (arith, less, same)))

pub numbers_small : (most : ℕ) (xs : List ℕ) (k x : ℕ) → k < length xs → ((j : ℕ) → get_or xs j 0 ≤ most) → x ≤ most → (j : ℕ) → get_or (set xs k x) j 0 ≤ most
numbers_small most xs k x here small low j = elim (cases_order j k) [
  | inl same ↦ rw (same, get_or-set_same xs k x 0 here) low
  | inr (inl before) ↦ rw (get_or-set_other xs k j x 0 (λ same. omega (arith, before, same))) (small j)
  | inr (inr past) ↦ rw (get_or-set_other xs k j x 0 (λ same. omega (arith, past, same))) (small j)
]

map_mid : {X : Type 0} (f : X → ℕ) (a k : ℕ) (xs ys : List X) → map f (put_mid a k xs ys) ≡ put_mid a k (map f xs) (map f ys)
map_mid f a k xs ys =
    map-append f (take a xs) (ys ++ drop k (drop a xs))
    ∙ ap (λ (p : List ℕ). p ++ map f (ys ++ drop k (drop a xs))) (sym (take-map f a xs))
    ∙ ap (λ (q : List ℕ). take a (map f xs) ++ q)
    (map-append f ys (drop k (drop a xs)) ∙ ap (λ (l : List ℕ). map f ys ++ l) (sym (drop-map f k (drop a xs)) ∙ ap (drop k) (sym (drop-map f a xs))))

pub mid_here : (a k : ℕ) (xs ys : List ℕ) (j : ℕ) → a ≤ length xs → j < length ys → get_or (put_mid a k xs ys) (a + j) 0 ≡ get_or ys j 0
mid_here a k xs ys j fits low = grind (arith, places, nat_tests)

mid_before : (a k : ℕ) (xs ys : List ℕ) (j : ℕ) → a ≤ length xs → j < a → get_or (put_mid a k xs ys) j 0 ≡ get_or xs j 0
mid_before a k xs ys j fits low = grind (arith, places, nat_tests)

mid_after : (a k : ℕ) (xs ys : List ℕ) (j : ℕ) → a + k ≤ length xs → length ys ≡ k → a + k ≤ j → get_or (put_mid a k xs ys) j 0 ≡ get_or xs j 0
mid_after a k xs ys j fits long past = grind (arith, places, nat_tests)

-- after a write to a part
pub part_here : {X : Type 0} (f : X → ℕ) (a k : ℕ) (xs ys : List X) (j : ℕ) → a ≤ length xs → j < length ys
    → get_or (map f (put_mid a k xs ys)) (a + j) 0 ≡ get_or (map f ys) j 0
part_here f a k xs ys j fits low =
    rw (map_mid f a k xs ys) (mid_here a k (map f xs) (map f ys) j (omega (arith, fits, length-map xs f)) (omega (arith, low, length-map ys f)))

pub part_before : {X : Type 0} (f : X → ℕ) (a k : ℕ) (xs ys : List X) (j : ℕ) → a ≤ length xs → j < a
    → get_or (map f (put_mid a k xs ys)) j 0 ≡ get_or (map f xs) j 0
part_before f a k xs ys j fits low = rw (map_mid f a k xs ys) (mid_before a k (map f xs) (map f ys) j (omega (arith, fits, length-map xs f)) low)

pub part_after : {X : Type 0} (f : X → ℕ) (a k : ℕ) (xs ys : List X) (j : ℕ) → a + k ≤ length xs → length ys ≡ k → a + k ≤ j
    → get_or (map f (put_mid a k xs ys)) j 0 ≡ get_or (map f xs) j 0
part_after f a k xs ys j fits long past =
    rw (map_mid f a k xs ys) (mid_after a k (map f xs) (map f ys) j (omega (arith, fits, length-map xs f)) (length-map ys f ∙ long) past)

-- a part that is read
map_part : {X : Type 0} (f : X → ℕ) (n at : ℕ) (xs : List X) → map f (take n (drop at xs)) ≡ take n (drop at (map f xs))
map_part f n at xs = sym (take-map f n (drop at xs)) ∙ ap (take n) (sym (drop-map f at xs))

less_back : (a n : ℕ) → a + n - a ≡ n
less_back a n = omega arith

part_at : (xs : List ℕ) (at n j : ℕ) → j < n → get_or (take n (drop at xs)) j 0 ≡ get_or xs (at + j) 0
part_at xs at n j low = rw (get_or-take, get_or-drop) refl

pub copied_is : {X : Type 0} (f : X → ℕ) (xs now : List X) (at n j : ℕ) → now ≡ take (at + n - at) (drop at xs) → j < n
    → get_or (map f now) j 0 ≡ get_or (map f xs) (at + j) 0
copied_is f xs now at n j is low =
    ap (λ (ys : List ℕ). get_or ys j 0) (ap (map f) is ∙ map_part f (at + n - at) at xs)
    ∙ (ap (λ (m : ℕ). get_or (take m (drop at (map f xs))) j 0) (less_back at n) ∙ part_at (map f xs) at n j low)

pub taken_is : {X : Type 0} (f : X → ℕ) (xs : List X) (m t u : ℕ) → t ≡ u → u < m → get_or (map f (take m xs)) t 0 ≡ get_or (map f xs) u 0
taken_is f xs m t u is low = ap (λ (ys : List ℕ). get_or ys t 0) (sym (take-map f m xs)) ∙ rw is (rw get_or-take refl)

pub taken_past : {X : Type 0} (f : X → ℕ) (xs : List X) (m t : ℕ) → m ≤ t → get_or (map f (take m xs)) t 0 ≡ 0
taken_past f xs m t past = get_or_past (map f (take m xs)) t 0 (omega (arith, past, length-map (take m xs) f, length-take m xs))

-- numbers stand for themselves
pub itself : (xs : List ℕ) (k : ℕ) → get_or (map (λ (n : ℕ). n) xs) k 0 ≡ get_or xs k 0
itself xs k = ap (λ (ys : List ℕ). get_or ys k 0) (map-id xs)

pub itself_same : (xs ys : List ℕ) (k : ℕ) → get_or (map (λ (n : ℕ). n) xs) k 0 ≡ get_or (map (λ (n : ℕ). n) ys) k 0 → get_or xs k 0 ≡ get_or ys k 0
itself_same xs ys k same = sym (itself xs k) ∙ same ∙ itself ys k

pub zeros : (n k : ℕ) → ◌≡◌ {A = ℕ} (get_or (replicate n 0) k 0) 0
zeros n k = elim (cases_lt k n) [
  | inl low ↦ get_or-replicate n k 0 0 low
  | inr past ↦ get_or_past (replicate n 0) k 0 (omega (arith, past, length-replicate {A = ℕ} n 0))
]

-- a part that is read whole
pub part_long : {X : Type 0} (xs : List X) (at n : ℕ) → at + n ≤ length xs → length (take (at + n - at) (drop at xs)) ≡ n
part_long xs at n fits = rw (less_back at n) (omega (arith, fits, length-take n (drop at xs), length-drop at xs))

past_part : {X : Type 0} (f : X → ℕ) (ys : List X) (m n k : ℕ) → m ≡ n → n ≤ k → get_or (map f (take m ys)) k 0 ≡ 0
past_part f ys m n k is past = get_or_past (map f (take m ys)) k 0 (omega (arith, past, is, length-map (take m ys) f, length-take m ys))

pub part_small : {X : Type 0} (f : X → ℕ) (xs : List X) (at n most k : ℕ) → ((c : ℕ) → c < n → get_or (map f xs) (at + c) 0 ≤ most)
    → get_or (map f (take (at + n - at) (drop at xs))) k 0 ≤ most
part_small f xs at n most k small = elim (cases_lt k n) [
  | inl low ↦ rw (copied_is f xs (take (at + n - at) (drop at xs)) at n k refl low) (small k low)
  | inr past ↦ rw (past_part f (drop at xs) (at + n - at) n k (less_back at n) past) (omega arith)
]
