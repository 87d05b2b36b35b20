-- The arithmetic coder as a window of eight bits that moves over the bits (9.2 of the standard: BoolValue, BoolRange).
use Rattle.std.specs.Prelude.{◌≡◌, ℕ, zero, suc, ◌+◌, ◌-◌, ◌*◌, ◌%◌, ◌^◌, ◌≤◌, Bool, List, [], ◌∷◌, drop, length, nat_le, nat_eq, if◌then◌else◌, Result, Ok, Err}
use Rattle.vp9_types.specs.Bits.{bits_of}
use Rattle.vp9_types.specs.declared.rule.Rule.{Rule}
use Rattle.vp9_types.specs.declared.rule.Rule.TheVariants.{BoolEmpty, BoolMarker}
use Rattle.bool_decoder.specs.Coder.{Coder, front_number, split_of, doublings, above_low}

-- a bit in front of bits without last zeros
abbrev pub trimmed_cons : ℕ → List ℕ → List ℕ
trimmed_cons zero [] = []
trimmed_cons zero (b ∷ bits) = 0 ∷ b ∷ bits
trimmed_cons (suc c) bits = suc c ∷ bits

-- the bits without their last zeros, which say nothing: zeros follow without end
unfoldable pub trimmed : List ℕ → List ℕ
trimmed [] = []
trimmed (b ∷ bits) = trimmed_cons b (trimmed bits)

-- the value of the window, its range, the bits that still come, and how many bits it has gone past a whole byte
pub record Window : Type 0 where
  pub value : ℕ
  pub range : ℕ
  pub rest : List ℕ
  pub place : ℕ

-- the window on the first eight bits
abbrev pub window_on : ℕ → ℕ → List ℕ → Window
window_on range place bits = record { value = front_number 8 bits; range = range; rest = drop 8 bits; place = place }

unfoldable pub first_window : List ℕ → Window
first_window bits = window_on 255 0 (trimmed bits)

abbrev pub is_one : ℕ → Window → Bool
is_one p w = nat_le (split_of w.range p) w.value

-- the bool at p, 0 or 1
unfoldable pub bit_of : ℕ → Window → ℕ
bit_of p w = if is_one p w then 1 else 0

-- value and range double k times, and the value takes the next bits
abbrev pub doubled_window : ℕ → ℕ → List ℕ → ℕ → ℕ → Window
doubled_window value range rest place k =
    record { value = value * 2 ^ k + front_number k rest; range = range * 2 ^ k; rest = drop k rest; place = (place + k) % 8 }

unfoldable pub after_bit : ℕ → Window → Window
after_bit p w =
    let split = split_of w.range p in
    if is_one p w
    then doubled_window (w.value - split) (w.range - split) w.rest w.place (doublings (w.range - split))
    else doubled_window w.value split w.rest w.place (doublings split)

-- a coder's window: what it has read less its low, and the bits that it hasn't read
unfoldable pub window_of_coder : Coder → Window
window_of_coder c = record { value = above_low c; range = c.range; rest = drop (8 + c.n) (trimmed c.bits); place = c.n % 8 }

abbrev pub Stands : Coder → Window → Type 0
Stands c w = (c.low ≤ front_number (8 + c.n) c.bits) × (window_of_coder c ≡ w)

-- a decoder's start (9.2.1 of the standard): there are bytes, and the marker, a bool at 128, is 0
unfoldable pub started : List ℕ → Result Window Rule
started bytes =
    let w = first_window (bits_of bytes) in
    if nat_eq (length bytes) 0 then Err BoolEmpty
    else (if nat_eq (bit_of 128 w) 1 then Err BoolMarker else Ok (after_bit 128 w))
