-- Numbers that go from one call to the next.
use Rattle.std.proofs.Common.{◌≡◌, ℕ, ◌^◌, ◌≤◌, ℤ, pos, negsuc, ◌+ℤ◌, List, unsigned_abs, to_z, of_z, arith, refl, ◌∙◌}
use Rattle.std.proofs.lemmas.Int.{to_z-of_z}
use mir.Syntax.{w16, w32}
use mir.Val.{SFits}
use Rattle.tap_filter.specs.Filter.{IsTap, weight, weighted}

pub fits_16 : (z : ℤ) → unsigned_abs z ≤ 4095 → SFits w16 z
fits_16 (pos x) small = record { sfits = omega arith }
fits_16 (negsuc x) small = record { sfits = omega arith }

pub fits_32 : (z : ℤ) → unsigned_abs z ≤ 2 ^ 24 → SFits w32 z
fits_32 (pos x) small = record { sfits = omega arith }
fits_32 (negsuc x) small = record { sfits = omega arith }

pub tap_kept : (z : ℤ) → IsTap z → to_z w16 (of_z w16 z) ≡ z
tap_kept z small = to_z-of_z w16 z (fits_16 z (omega (arith, small)))

pub eight_is : (taps : List ℤ) (f : ℕ → ℕ) (p q r s v : ℤ) → v ≡ (p +ℤ q) +ℤ (r +ℤ s) →
    p ≡ weight taps 0 (f 0) +ℤ weight taps 1 (f 1) → q ≡ weight taps 2 (f 2) +ℤ weight taps 3 (f 3) →
    r ≡ weight taps 4 (f 4) +ℤ weight taps 5 (f 5) → s ≡ weight taps 6 (f 6) +ℤ weight taps 7 (f 7) → v ≡ weighted taps f
unfolding weighted
eight_is taps f p q r s v is a b c d = is ∙ rw (a, b, c, d) refl
