-- The arithmetic coder as numbers without bound (9.2 of the standard): bools narrow the part of all numbers that
-- the bits lie in.
use Rattle.std.specs.Prelude.{ℕ, zero, suc, ◌+◌, ◌-◌, ◌*◌, ◌/◌, ◌^◌, Bool, List, [], ◌∷◌, nat_le, if◌then◌else◌}

-- the number that the first n bits spell, zeros following the bits without end: the first of n + 1 is worth 2 ^ n
unfoldable pub front_number : ℕ → List ℕ → ℕ
front_number zero bits = 0
front_number (suc n) [] = 0
front_number (suc n) (b ∷ bits) = b * 2 ^ n + front_number n bits

-- where a range is split for a bool at p, which is out of 256
abbrev pub split_of : ℕ → ℕ → ℕ
split_of range p = 1 + (range - 1) * p / 256

-- how often a range doubles until it is 128 or more, if that takes no more than the first number
unfoldable pub doublings_within : ℕ → ℕ → ℕ
doublings_within zero range = 0
doublings_within (suc most) range = if nat_le 128 range then 0 else 1 + doublings_within most (2 * range)

-- the least k with 128 ≤ range * 2 ^ k, for a range of 1 and more
abbrev pub doublings : ℕ → ℕ
doublings range = doublings_within 7 range

-- the coder has read 8 + n bits, and narrowed their numbers to the `range` ones from `low` on
pub record Coder : Type 0 where
  pub bits : List ℕ
  pub n : ℕ
  pub low : ℕ
  pub range : ℕ

unfoldable pub first_coder : List ℕ → Coder
first_coder bits = record { bits = bits; n = 0; low = 0; range = 255 }

-- how far above low the bits that it has read lie
abbrev pub above_low : Coder → ℕ
above_low c = front_number (8 + c.n) c.bits - c.low

abbrev pub coder_is_one : ℕ → Coder → Bool
coder_is_one p c = nat_le (split_of c.range p) (above_low c)

-- the bool at p, 0 or 1
unfoldable pub bool_of : ℕ → Coder → ℕ
bool_of p c = if coder_is_one p c then 1 else 0

abbrev pub doubled_coder : List ℕ → ℕ → ℕ → ℕ → ℕ → Coder
doubled_coder bits n low range k = record { bits = bits; n = n + k; low = low * 2 ^ k; range = range * 2 ^ k }

-- 1 is the part from the split on, 0 the part below it
unfoldable pub after_bool : ℕ → Coder → Coder
after_bool p c =
    let split = split_of c.range p in
    if coder_is_one p c
    then doubled_coder c.bits c.n (c.low + split) (c.range - split) (doublings (c.range - split))
    else doubled_coder c.bits c.n c.low split (doublings split)
