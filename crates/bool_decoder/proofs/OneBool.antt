-- The answer to one question.
use Rattle.std.proofs.Common.{◌≡◌, ℕ, ◌<◌, Bool, true, false, refl, arith, ◌⊎◌, inl, inr}
use mir.Val.{bool_byte}
use Rattle.std.specs.Prelude.{nat_eq}
use Rattle.bool_decoder.specs.Window.{Window, bit_of, is_one}

pub bit_cases : (p : ℕ) (w : Window) (one : Bool) → is_one p w ≡ one → (bit_of p w ≡ 0) ⊎ (bit_of p w ≡ 1)
unfolding bit_of
bit_cases p w true is = inr (rw is refl)
bit_cases p w false is = inl (rw is refl)

-- a bool as a number is the answer
pub bit_number : (p : ℕ) (w : Window) → bool_byte (nat_eq (bit_of p w) 1) ≡ bit_of p w
bit_number p w =
    elim (bit_cases p w (is_one p w) refl) [
      | inl none ↦ rw none refl
      | inr one ↦ rw one refl
    ]

pub bit_low : (p : ℕ) (w : Window) → bit_of p w < 2
bit_low p w =
    elim (bit_cases p w (is_one p w) refl) [
      | inl none ↦ omega arith
      | inr one ↦ omega arith
    ]
