-- Sums of weighted bytes, in sixteen bits.
use Rattle.std.proofs.Common.{◌≡◌, ℕ, ◌+◌, ◌*◌, ◌-◌, ◌<◌, ◌≤◌, ℤ, pos, negsuc, ◌+ℤ◌, ◌*ℤ◌, neg_ℤ, List, arith, refl, ◌∙◌, ap, sym, zero, suc, get_or, inl, inr, to_z, of_z}
use Rattle.std.proofs.Math.Nat.{mul-le-mul_left}
use Rattle.std.proofs.Math.IntN.{+ℤ_assoc, +ℤ_comm}
use Rattle.std.proofs.lemmas.Int.{to_z-of_z}
use Rattle.std.proofs.lemmas.Bool.{cases_lt}
use Rattle.std.specs.Int.{int_shr, int_min, int_max}
use Rattle.vp9_types.specs.Sizes.{clip}
use Rattle.tap_filter.specs.Filter.{IsTap, weight, weighted, filtered, rounded}
use Rattle.tap_filter.proofs.NumberLemmas.{tap_kept}
use Rattle.vp9_tables.specs.Filters.{above, below, sum_above, sum_below, AreTaps}
use mir.Syntax.{w8, w16}
use mir.Val.{Fits, SFits}

-- what the loop has summed: it begins at 64 less 128 whole samples
abbrev pub summed : List ℤ → (ℕ → ℕ) → ℕ → ℤ
summed taps f zero = negsuc 16319
summed taps f (suc k) = summed taps f k +ℤ weight taps k (f k)

-- a number at most so far above 0, and so far below it
pub record IsWithin (high low : ℕ) (z : ℤ) : Type 0 where
  pub up : above z ≤ high
  pub down : below z ≤ low

pub within_sum : (x y : ℤ) (a b c d : ℕ) → IsWithin a b x → IsWithin c d y → IsWithin (a + c) (b + d) (x +ℤ y)
within_sum (pos x) (pos y) a b c d p q = record { up = omega (arith, p.up, q.up); down = omega arith }
within_sum (pos x) (negsuc y) a b c d p q = grind (arith, p.up, p.down, q.up, q.down)
within_sum (negsuc x) (pos y) a b c d p q = grind (arith, p.up, p.down, q.up, q.down)
within_sum (negsuc x) (negsuc y) a b c d p q = record { up = omega arith; down = omega (arith, p.down, q.down) }

pub fits_bytes : (z : ℤ) → above z ≤ 32767 → below z ≤ 32768 → SFits w16 z
fits_bytes (pos n) a b = record { sfits = omega (arith, a, b) }
fits_bytes (negsuc n) a b = record { sfits = omega (arith, a, b) }

pub byte_is : (x : ℤ) → clip 255 (int_shr (x +ℤ negsuc 16319) 7 +ℤ pos 128) ≡ clip 255 (int_shr (x +ℤ pos 64) 7)
byte_is (pos n) = grind arith
byte_is (negsuc n) = grind arith

above_neg : (n : ℕ) → above (neg_ℤ (pos n)) ≤ 0
above_neg zero = omega arith
above_neg (suc n) = omega arith

below_neg : (n : ℕ) → below (neg_ℤ (pos n)) ≤ n
below_neg zero = omega arith
below_neg (suc n) = omega arith

pub product_within : (t : ℤ) (s : ℕ) → s ≤ 255 → IsWithin (255 * above t) (255 * below t) (t *ℤ pos s)
product_within (pos m) s low = record { up = omega (arith, mul-le-mul_left m low); down = omega arith }
product_within (negsuc m) s low = record {
  up = omega (arith, above_neg (suc m * s));
  down = omega (arith, below_neg (suc m * s), mul-le-mul_left (suc m) low);
}

-- the same from 0 on
abbrev plain : List ℤ → (ℕ → ℕ) → ℕ → ℤ
plain taps f zero = pos 0
plain taps f (suc k) = plain taps f k +ℤ weight taps k (f k)

plain_within : (taps : List ℤ) (f : ℕ → ℕ) (k : ℕ) → ((j : ℕ) → f j ≤ 255) → IsWithin (255 * sum_above taps k) (255 * sum_below taps k) (plain taps f k)
plain_within taps f zero small = record { up = omega arith; down = omega arith }
plain_within taps f (suc k) small =
    let more = within_sum _ _ _ _ _ _ (plain_within taps f k small) (product_within (get_or taps k (pos 0)) (f k) (small k)) in
    record { up = omega (arith, more.up); down = omega (arith, more.down) }

summed_is : (taps : List ℤ) (f : ℕ → ℕ) (k : ℕ) → summed taps f k ≡ plain taps f k +ℤ negsuc 16319
summed_is taps f zero = refl
summed_is taps f (suc k) = let p = plain taps f k in let w = weight taps k (f k) in
    ap (λ (z : ℤ). z +ℤ w) (summed_is taps f k) ∙ +ℤ_assoc p (negsuc 16319) w ∙ ap (λ (z : ℤ). p +ℤ z) (+ℤ_comm (negsuc 16319) w) ∙ sym (+ℤ_assoc p w (negsuc 16319))

less_above : (z : ℤ) → above z ≤ 48960 → above (z +ℤ negsuc 16319) ≤ 32767
less_above (pos n) high = grind (arith, high)
less_above (negsuc n) high = grind (arith, high)

less_below : (z : ℤ) → below z ≤ 16320 → below (z +ℤ negsuc 16319) ≤ 32768
less_below (pos n) low = grind (arith, low)
less_below (negsuc n) low = grind (arith, low)

sum_up : (taps : List ℤ) (k n : ℕ) → k ≤ n → sum_above taps k ≤ sum_above taps n
sum_up taps k zero low = let e : k ≡ 0 = omega arith in rw e (omega arith)
sum_up taps k (suc n) low = elim (cases_lt k (suc n)) [
  | inl less ↦ let before = sum_up taps k n (omega arith) in omega (arith, before)
  | inr same ↦ let e : k ≡ suc n = omega arith in rw e (omega arith)
]

sum_down : (taps : List ℤ) (k n : ℕ) → k ≤ n → sum_below taps k ≤ sum_below taps n
sum_down taps k zero low = let e : k ≡ 0 = omega arith in rw e (omega arith)
sum_down taps k (suc n) low = elim (cases_lt k (suc n)) [
  | inl less ↦ let before = sum_down taps k n (omega arith) in omega (arith, before)
  | inr same ↦ let e : k ≡ suc n = omega arith in rw e (omega arith)
]

-- no sum on the way leaves sixteen bits
pub sum_fits : (taps : List ℤ) (f : ℕ → ℕ) (k : ℕ) → AreTaps taps → ((j : ℕ) → f j ≤ 255) → k ≤ 8 → SFits w16 (summed taps f k)
sum_fits taps f k are small low =
    let r = plain_within taps f k small in
    rw (summed_is taps f k) (fits_bytes (plain taps f k +ℤ negsuc 16319)
    (less_above (plain taps f k) (omega (arith, r.up, are.above, sum_up taps k 8 low)))
    (less_below (plain taps f k) (omega (arith, r.down, are.below, sum_down taps k 8 low))))

-- the same numbers summed by pairs
by_pairs : (b p q r s t u v w : ℤ) → (((((((b +ℤ p) +ℤ q) +ℤ r) +ℤ s) +ℤ t) +ℤ u) +ℤ v) +ℤ w ≡ (((p +ℤ q) +ℤ (r +ℤ s)) +ℤ ((t +ℤ u) +ℤ (v +ℤ w))) +ℤ b
by_pairs b p q r s t u v w = rw (
  +ℤ_assoc b p q,
  +ℤ_assoc (b +ℤ (p +ℤ q)) r s,
  +ℤ_assoc b (p +ℤ q) (r +ℤ s),
  +ℤ_assoc (b +ℤ ((p +ℤ q) +ℤ (r +ℤ s))) t u,
  +ℤ_assoc ((b +ℤ ((p +ℤ q) +ℤ (r +ℤ s))) +ℤ (t +ℤ u)) v w,
  +ℤ_assoc (b +ℤ ((p +ℤ q) +ℤ (r +ℤ s))) (t +ℤ u) (v +ℤ w),
  +ℤ_assoc b ((p +ℤ q) +ℤ (r +ℤ s)) ((t +ℤ u) +ℤ (v +ℤ w)),
) (+ℤ_comm b (((p +ℤ q) +ℤ (r +ℤ s)) +ℤ ((t +ℤ u) +ℤ (v +ℤ w))))

eight_summed : (taps : List ℤ) (f : ℕ → ℕ) → summed taps f 8 ≡ weighted taps f +ℤ negsuc 16319
unfolding weighted
eight_summed taps f = by_pairs (negsuc 16319) (weight taps 0 (f 0)) (weight taps 1 (f 1)) (weight taps 2 (f 2)) (weight taps 3 (f 3)) (weight taps 4 (f 4)) (weight taps 5 (f 5)) (weight taps 6 (f 6)) (weight taps 7 (f 7))

pub byte_value : (taps : List ℤ) (f : ℕ → ℕ) → clip 255 (int_shr (summed taps f 8) 7 +ℤ pos 128) ≡ filtered 255 taps f
unfolding rounded
byte_value taps f = rw (eight_summed taps f) (byte_is (weighted taps f))

tap_sides : (t : ℤ) → IsTap t → IsWithin 128 128 t
tap_sides (pos n) small = record { up = omega (arith, small); down = omega arith }
tap_sides (negsuc n) small = record { up = omega arith; down = omega (arith, small) }

pub product_fits : (t : ℤ) (s : ℕ) → IsTap t → s ≤ 255 → SFits w16 (t *ℤ pos s)
product_fits t s small low = let p = product_within t s low in let sides = tap_sides t small in
    fits_bytes (t *ℤ pos s) (omega (arith, p.up, sides.up)) (omega (arith, p.down, sides.down))

byte_fits : (s : ℕ) → s ≤ 255 → SFits w16 (pos s)
byte_fits s low = record { sfits = omega (arith, low) }

-- what goes from one step to the next
pub product_kept : (t : ℤ) (s : ℕ) → IsTap t → s ≤ 255 → to_z w16 (of_z w16 t) *ℤ to_z w16 (of_z w16 (pos s)) ≡ t *ℤ pos s
product_kept t s small low = rw (tap_kept t small, to_z-of_z w16 (pos s) (byte_fits s low)) refl

pub weighted_kept : (t : ℤ) (s : ℕ) → IsTap t → s ≤ 255 → to_z w16 (of_z w16 (t *ℤ pos s)) ≡ t *ℤ pos s
weighted_kept t s small low = to_z-of_z w16 (t *ℤ pos s) (product_fits t s small low)

pub sum_kept : (z : ℤ) → SFits w16 z → to_z w16 (of_z w16 z) ≡ z
sum_kept z fits = to_z-of_z w16 z fits

-- the loop's step
pub sum_step : (taps : List ℤ) (f : ℕ → ℕ) (k : ℕ) (sum x : ℤ) → sum ≡ summed taps f k → x ≡ pos (f k) → AreTaps taps → ((j : ℕ) → f j ≤ 255) → k < 8 →
    to_z w16 (of_z w16 (sum +ℤ to_z w16 (of_z w16 (to_z w16 (of_z w16 (get_or taps k (pos 0))) *ℤ to_z w16 (of_z w16 x))))) ≡ summed taps f (k + 1)
sum_step taps f k sum x is byte are small low =
    let next : k + 1 ≡ suc k = omega arith in
    rw (byte, is, product_kept (get_or taps k (pos 0)) (f k) (are.small k) (small k), weighted_kept (get_or taps k (pos 0)) (f k) (are.small k) (small k), next)
    (sum_kept (summed taps f (suc k)) (sum_fits taps f (suc k) are small (omega (arith, low))))

pub byte_small : {x : ℕ} → Fits w8 x → x ≤ 255
byte_small fits = omega (arith, fits)

weighted_same : (taps : List ℤ) (f g : ℕ → ℕ) → ((k : ℕ) → f k ≡ g k) → weighted taps f ≡ weighted taps g
unfolding weighted
weighted_same taps f g same = rw (same 0, same 1, same 2, same 3, same 4, same 5, same 6, same 7) refl

pub along_is : (taps : List ℤ) (xs : List ℕ) (place j : ℕ) → filtered 255 taps (λ k. get_or xs (place + k * 1 + j) 0) ≡ filtered 255 taps (λ k. get_or xs (place + (j + k)) 0)
along_is taps xs place j = ap (rounded 255) (weighted_same taps (λ k. get_or xs (place + k * 1 + j) 0) (λ k. get_or xs (place + (j + k)) 0)
    (λ k. let e : place + k * 1 + j ≡ place + (j + k) = omega arith in ap (λ (z : ℕ). get_or xs z 0) e))

pub line_is : (taps : List ℤ) (xs : List ℕ) (from whole j : ℕ) → whole ≤ j →
    filtered 255 taps (λ k. get_or xs (from + whole + (j - whole + k)) 0) ≡ filtered 255 taps (λ k. get_or xs (from + (j + k)) 0)
line_is taps xs from whole j past = ap (rounded 255) (weighted_same taps (λ k. get_or xs (from + whole + (j - whole + k)) 0) (λ k. get_or xs (from + (j + k)) 0)
    (λ k. let e : from + whole + (j - whole + k) ≡ from + (j + k) = omega arith in ap (λ (z : ℕ). get_or xs z 0) e))

-- clipped before 128 is added
clip_moved : (x : ℤ) → int_min (int_max x (negsuc 127)) (pos 127) +ℤ pos 128 ≡ pos (clip 255 (x +ℤ pos 128))
clip_moved (pos n) = grind arith
clip_moved (negsuc n) = grind arith

pub clip_most : (z : ℤ) → clip 255 z ≤ 255
clip_most (pos n) = omega arith
clip_most (negsuc n) = omega arith

pub moved_is : (x low byte : ℤ) → low ≡ int_max x (negsuc 127) → byte ≡ int_min low (pos 127) → to_z w16 (of_z w16 byte) ≡ byte
    → to_z w16 (of_z w16 (to_z w16 (of_z w16 byte) +ℤ pos 128)) ≡ pos (clip 255 (x +ℤ pos 128))
moved_is x low byte first second kept =
    let most = clip_most (x +ℤ pos 128) in
    rw (kept, second, first, clip_moved x) (to_z-of_z w16 (pos (clip 255 (x +ℤ pos 128))) (fits_bytes _ (omega (arith, most)) (omega arith)))
