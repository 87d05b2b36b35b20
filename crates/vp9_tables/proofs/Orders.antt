-- Tests that compute over a table, and what they say of it. A set of numbers is a number, whose bits say what it has.
use Rattle.std.proofs.Common.{inl, inr, ◌≡◌, ℕ, zero, suc, ◌+◌, ◌^◌, ◌<◌, ◌≤◌, ◌∙◌, sym, ap, refl, arith, Bool, true, false, ◌&&◌, nat_eq, nat_lt, nat_le, List, [], ◌∷◌, length, slice_index, max, All, take, drop}
use Rattle.std.specs.List.{list_all, AllByRecursion, IsDistinct, Contains}
use Rattle.std.specs.Int.{bit_at}
use Rattle.std.specs.Int.Bits.{bit_and}
use Rattle.std.proofs.lemmas.Nat.Bits.{bit_at_or, bit_at-pow_same, bit_at-pow_other, bit_at-lt, bit_at-zero, and_pow}
use Rattle.std.proofs.lemmas.Nat.{or_disjoint}
use Rattle.std.proofs.lemmas.Bool.{and_parts, eqb-true, leb-true, ltb-true, false≢true}
use Rattle.std.proofs.lemmas.Bool.Decides.{eqb_tells}
use Rattle.std.proofs.lemmas.List.Elements.{All-cons, All-nil}
use Rattle.vp9_tables.specs.Orders.{NeverFalls, IsPermutation}
use Rattle.vp9_tables.specs.Scans.{AreEarlier, HasEarlierNeighbours}

abbrev pub rises : ℕ → List ℕ → Bool
rises low [] = true
rises low (x ∷ xs) = nat_le low x && rises x xs

low_is_least : (low : ℕ) (xs : List ℕ) (i : ℕ) → rises low xs ≡ true → i < length xs → low ≤ slice_index xs i
low_is_least low [] i r h = omega arith
low_is_least low (x ∷ xs) zero r h = leb-true _ _ (and_parts _ _ r).0
low_is_least low (x ∷ xs) (suc i) r h =
    let t = and_parts (nat_le low x) (rises x xs) r in
    let l : i < length xs = omega (arith, h) in
    let p : low ≤ x = leb-true low x t.0 in
    let q : x ≤ slice_index xs i = low_is_least x xs i t.1 l in
    omega (arith, p, q)

pub never_falls : (low : ℕ) (xs : List ℕ) → rises low xs ≡ true → NeverFalls xs
never_falls low [] r i j le h = omega arith
never_falls low (x ∷ xs) r zero zero le h = omega arith
never_falls low (x ∷ xs) r zero (suc j) le h = low_is_least x xs j (and_parts _ _ r).1 (omega arith)
never_falls low (x ∷ xs) r (suc i) zero le h = omega arith
never_falls low (x ∷ xs) r (suc i) (suc j) le h = never_falls x xs (and_parts _ _ r).1 i j (omega arith) (omega arith)

abbrev pub with : ℕ → ℕ → ℕ
with seen p = seen + 2 ^ p

with_is_or : (seen p q : ℕ) → bit_at seen p ≡ 0 → bit_at (with seen p) q ≡ max (bit_at seen q) (bit_at (2 ^ p) q)
with_is_or seen p q h =
    let e : bit_and seen (2 ^ p) ≡ 0 = rw (and_pow seen p, h) (omega arith) in
    ap (λ s. bit_at s q) (sym (or_disjoint seen (2 ^ p) e)) ∙ bit_at_or seen (2 ^ p) q

pub seen_now : (seen p : ℕ) → bit_at seen p ≡ 0 → bit_at (with seen p) p ≡ 1
seen_now seen p h = with_is_or seen p p h ∙ rw (h, bit_at-pow_same p) refl

pub seen_still : (seen p q : ℕ) → bit_at seen p ≡ 0 → bit_at seen q ≡ 1 → bit_at (with seen p) q ≡ 1
seen_still seen p q h g =
    let l : bit_at (2 ^ p) q < 2 = bit_at-lt (2 ^ p) q in
    with_is_or seen p q h ∙ rw g (omega arith)

abbrev pub is_new : ℕ → List ℕ → Bool
is_new seen [] = true
is_new seen (p ∷ ps) = nat_eq (bit_at seen p) 0 && is_new (with seen p) ps

other : (seen q p : ℕ) → bit_at seen q ≡ 1 → bit_at seen p ≡ 0 → nat_eq q p ≡ false
other seen q p g h =
    elim (eqb_tells q p) [
      | inl e ↦ let no : ⊥ = (let f : bit_at seen q ≡ bit_at seen p = ap (λ k. bit_at seen k) e.1 in omega (arith, f, g, h)) in absurd no
      | inr e ↦ e.0
    ]

not_again : (seen q : ℕ) (ps : List ℕ) → bit_at seen q ≡ 1 → is_new seen ps ≡ true → AllByRecursion (λ y. nat_eq q y ≡ false) ps
not_again seen q [] g t = tt
not_again seen q (p ∷ ps) g t =
    let h : bit_at seen p ≡ 0 = eqb-true _ _ (and_parts _ _ t).0 in
    (other seen q p g h, not_again (with seen p) q ps (seen_still seen p q h g) (and_parts _ _ t).1)

pub distinct : (seen : ℕ) (ps : List ℕ) → is_new seen ps ≡ true → IsDistinct nat_eq ps
unfolding IsDistinct
distinct seen [] t = tt
distinct seen (p ∷ ps) t =
    let h : bit_at seen p ≡ 0 = eqb-true _ _ (and_parts _ _ t).0 in
    (not_again (with seen p) p ps (seen_now seen p h) (and_parts _ _ t).1, distinct (with seen p) ps (and_parts _ _ t).1)

pub all_below : (n : ℕ) (xs : List ℕ) → list_all (λ x. nat_lt x n) xs ≡ true → AllByRecursion (λ x. x < n) xs
all_below n [] t = tt
all_below n (x ∷ xs) t = (ltb-true _ _ (and_parts _ _ t).0, all_below n xs (and_parts _ _ t).1)

pub each_below : (n : ℕ) (xs : List ℕ) → list_all (λ x. nat_lt x n) xs ≡ true → All (λ x. x < n) xs
each_below n [] t = All-nil (λ x. x < n)
each_below n (x ∷ xs) t = All-cons (λ x. x < n) x xs (ltb-true x n (and_parts (nat_lt x n) (list_all (λ y. nat_lt y n) xs) t).0) (each_below n xs (and_parts (nat_lt x n) (list_all (λ y. nat_lt y n) xs) t).1)

pub permutation : (n : ℕ) (xs : List ℕ) → length xs ≡ n → list_all (λ x. nat_lt x n) xs ≡ true → is_new 0 xs ≡ true → IsPermutation n xs
permutation n xs l b d = (l, all_below n xs b, distinct 0 xs d)

-- the bits are among the numbers of the list
abbrev Among : ℕ → List ℕ → Type 0
Among seen front = (q : ℕ) → bit_at seen q ≡ 1 → Contains front q

among_more : (seen p : ℕ) (front : List ℕ) → bit_at seen p ≡ 0 → Among seen front → Among (with seen p) (p ∷ front)
among_more seen p front h a q g =
    elim (eqb_tells q p) [
      | inl e ↦ (0, omega arith, sym e.1)
      | inr e ↦ let b : bit_at seen q ≡ 1 = (let f : bit_at (2 ^ p) q ≡ 0 = bit_at-pow_other p q e.1 in omega (arith, with_is_or seen p q h, f, g)) in
          let c : Contains front q = a q b in (suc c.0, omega (arith, c.1), c.2)
    ]

abbrev pub is_earlier : ℕ → List ℕ → List ℕ → Bool
is_earlier seen [] pairs = true
is_earlier seen (p ∷ ps) [] = false
is_earlier seen (p ∷ ps) (a ∷ []) = false
is_earlier seen (p ∷ ps) (a ∷ b ∷ pairs) =
    nat_eq (bit_at seen a) 1 && (nat_eq (bit_at seen b) 1 && is_earlier (with seen p) ps pairs)

pub are_earlier : (seen : ℕ) (front ps pairs : List ℕ) → Among seen front → is_new seen ps ≡ true → is_earlier seen ps pairs ≡ true → AreEarlier front ps pairs
are_earlier seen front [] pairs a n t = tt
are_earlier seen front (p ∷ ps) [] a n t = absurd (false≢true t)
are_earlier seen front (p ∷ ps) (x ∷ []) a n t = absurd (false≢true t)
are_earlier seen front (p ∷ ps) (x ∷ y ∷ pairs) a n t =
    let h : bit_at seen p ≡ 0 = eqb-true _ _ (and_parts _ _ n).0 in
    let u = and_parts _ _ (and_parts _ _ t).1 in (
      a x (eqb-true _ _ (and_parts _ _ t).0),
      a y (eqb-true _ _ u.0),
      are_earlier (with seen p) (p ∷ front) ps pairs (among_more seen p front h a) (and_parts _ _ n).1 u.1,
    )

none : Among 0 []
none q g = let z : bit_at 0 q ≡ 0 = bit_at-zero q in let no : ⊥ = omega (arith, z, g) in absurd no

pub has_earlier : (order pairs : List ℕ) → take 1 order ≡ 0 ∷ [] → is_new 1 (drop 1 order) ≡ true → is_earlier 1 (drop 1 order) (drop 2 pairs) ≡ true → HasEarlierNeighbours order pairs
has_earlier order pairs e n t = rw e (are_earlier 1 (0 ∷ []) (drop 1 order) (drop 2 pairs) (among_more 0 0 [] refl none) n t)
