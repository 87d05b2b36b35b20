-- How often a range doubles.
use Rattle.std.proofs.Common.{◌≡◌, ℕ, zero, suc, ◌+◌, ◌*◌, ◌^◌, ◌≤◌, Bool, true, false, refl, ap, arith, inl, inr}
use Rattle.std.specs.Prelude.{nat_le, nat_eq, if◌then◌else◌, ◌||◌}
use Rattle.std.specs.Int.{leading_zeros, w32}
use Rattle.std.specs.Int.Count.{count_leading_zeros}
use Rattle.std.proofs.lemmas.Nat.{pow-add}
use Rattle.std.proofs.lemmas.Bool.{leb-true, leb-false, agree_below_at, or_cases, eqb-true}
use Rattle.bool_decoder.specs.Coder.{doublings, doublings_within}

-- 2 ^ (1 + k) is twice 2 ^ k, and a range times it is twice the range times that
twice : (range k : ℕ) → range * 2 ^ (1 + k) ≡ (2 * range) * 2 ^ k
twice range k = let e = ap (λ x. range * x) (pow-add 2 1 k) in omega arith

once : (range : ℕ) → range * 2 ^ 0 ≡ range
once range = omega arith

enough_by : (most range : ℕ) (wide : Bool) → nat_le 128 range ≡ wide → 128 ≤ range * 2 ^ suc most
    → ((r : ℕ) → 128 ≤ r * 2 ^ most → 128 ≤ r * 2 ^ doublings_within most r)
    → 128 ≤ range * 2 ^ (if wide then 0 else 1 + doublings_within most (2 * range))
enough_by most range true is h there = let wide : 128 ≤ range = leb-true 128 range is in let e = once range in omega arith
enough_by most range false is h there =
    let e = twice range most in
    let f = twice range (doublings_within most (2 * range)) in
    let n : range * 2 ^ suc most ≡ range * 2 ^ (1 + most) = ap (λ k. range * 2 ^ k) (omega arith) in
    let more = there (2 * range) (omega arith) in
    omega arith

enough_within : (most range : ℕ) → 128 ≤ range * 2 ^ most → 128 ≤ range * 2 ^ doublings_within most range
unfolding doublings_within
enough_within zero range h = h
enough_within (suc most) range h = enough_by most range (nat_le 128 range) refl h (enough_within most)

pub doublings-enough : (range : ℕ) → 1 ≤ range → 128 ≤ range * 2 ^ doublings range
doublings-enough range h = enough_within 7 range (omega arith)

least_by : (most range k : ℕ) (wide : Bool) → nat_le 128 range ≡ wide → 128 ≤ range * 2 ^ k
    → ((r j : ℕ) → 128 ≤ r * 2 ^ j → doublings_within most r ≤ j)
    → (if wide then 0 else 1 + doublings_within most (2 * range)) ≤ k
least_by most range k true is h there = omega arith
least_by most range zero false is h there = let narrow = leb-false 128 range is in let e = once range in omega arith
least_by most range (suc k) false is h there =
    let e = twice range k in
    let n : range * 2 ^ suc k ≡ range * 2 ^ (1 + k) = ap (λ j. range * 2 ^ j) (omega arith) in
    let more = there (2 * range) k (omega arith) in
    omega arith

least_within : (most range k : ℕ) → 128 ≤ range * 2 ^ k → doublings_within most range ≤ k
unfolding doublings_within
least_within zero range k h = omega arith
least_within (suc most) range k h = least_by most range k (nat_le 128 range) refl h (least_within most)

pub doublings-least : (range k : ℕ) → 128 ≤ range * 2 ^ k → doublings range ≤ k
doublings-least range k h = least_within 7 range k h

fits_by : (most range : ℕ) (wide : Bool) → nat_le 128 range ≡ wide → range ≤ 255
    → ((r : ℕ) → r ≤ 255 → r * 2 ^ doublings_within most r ≤ 255)
    → range * 2 ^ (if wide then 0 else 1 + doublings_within most (2 * range)) ≤ 255
fits_by most range true is h there = let e = once range in omega arith
fits_by most range false is h there =
    let narrow = leb-false 128 range is in
    let f = twice range (doublings_within most (2 * range)) in
    let more = there (2 * range) (omega arith) in
    omega arith

fits_within : (most range : ℕ) → range ≤ 255 → range * 2 ^ doublings_within most range ≤ 255
unfolding doublings_within
fits_within zero range h = let e = once range in omega arith
fits_within (suc most) range h = fits_by most range (nat_le 128 range) refl h (fits_within most)

pub doublings-fit : (range : ℕ) → range ≤ 255 → range * 2 ^ doublings range ≤ 255
doublings-fit range h = fits_within 7 range h

-- the leading zeros of a byte
is_counted : ℕ → Bool
is_counted r = nat_eq r 0 || nat_eq (24 + doublings r) (leading_zeros w32 r)

counted_by : (r : ℕ) → 1 ≤ r → nat_eq r 0 ≡ true → ⊥
counted_by r h is = let e = eqb-true r 0 is in omega arith

pub doublings-counted : (r : ℕ) → 1 ≤ r → r ≤ 255 → 24 + doublings r ≡ leading_zeros w32 r
unfolding is_counted doublings_within count_leading_zeros
doublings-counted r some fits =
    let is : is_counted r ≡ true = agree_below_at is_counted (λ _. true) 256 r refl (omega arith) in
    elim (or_cases (nat_eq r 0) (nat_eq (24 + doublings r) (leading_zeros w32 r)) is) [
      | inl none ↦ absurd (counted_by r some none)
      | inr counted ↦ eqb-true (24 + doublings r) (leading_zeros w32 r) counted
    ]
