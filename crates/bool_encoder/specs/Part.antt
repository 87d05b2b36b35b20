-- What bools make of the numbers that bits can spell (9.2 of the standard, in the other direction): each bool leaves a
-- part of them, those from which a decoder reads it.
use Rattle.std.specs.Prelude.{◌≡◌, ℕ, ◌+◌, ◌-◌, ◌*◌, ◌/◌, ◌^◌, List, [], ◌∷◌, ◌++◌, length, nat_eq, if◌then◌else◌}
use Rattle.vp9_types.specs.Bits.{bits_of, spelled}
use Rattle.bool_decoder.specs.Coder.{split_of, doublings}

-- of the numbers of 8 + n bits, the `range` ones from `low` on
pub record NumberPart : Type 0 where
  pub n : ℕ
  pub low : ℕ
  pub range : ℕ

unfoldable pub first_part : NumberPart
first_part = record { n = 0; low = 0; range = 255 }

abbrev pub doubled_part : ℕ → ℕ → ℕ → ℕ → NumberPart
doubled_part n low range k = record { n = n + k; low = low * 2 ^ k; range = range * 2 ^ k }

-- the part that a bool at p leaves: 1 is the part from the split on, 0 the part below it
unfoldable pub after_put : ℕ → ℕ → NumberPart → NumberPart
after_put p v e =
    let split = split_of e.range p in
    if nat_eq v 1 then doubled_part e.n (e.low + split) (e.range - split) (doublings (e.range - split))
    else doubled_part e.n e.low split (doublings split)

-- the part after the bool that stands before all others, the marker: 0 at one half
abbrev pub behind_marker : NumberPart
behind_marker = after_put 128 0 first_part

-- a part's bytes are as many as 8 + n bits take: those of its low, and then 0 bits to the end of the last byte
pub record Finishes (e : NumberPart) (bytes : List ℕ) : Type 0 where
  pub size : length bytes ≡ (8 + e.n + 7) / 8
  pub bits : bits_of bytes ≡ spelled (8 + e.n) e.low ++ spelled (8 * length bytes - (8 + e.n)) 0

-- the part after they were put, the first one first
abbrev pub after_bools : List (ℕ × ℕ) → NumberPart → NumberPart
after_bools [] part = part
after_bools (b ∷ bools) part = after_bools bools (after_put b.0 b.1 part)
