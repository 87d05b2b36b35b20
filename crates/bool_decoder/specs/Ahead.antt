-- The bits that a decoder has before it: those in its window, and those of the bytes after them.
use Rattle.std.specs.Prelude.{◌≡◌, ℕ, zero, suc, ◌+◌, ◌-◌, ◌*◌, ◌/◌, ◌%◌, ◌^◌, ◌≤◌, List, [], ◌∷◌, ◌++◌, take}
use Rattle.vp9_types.specs.Bits.{bits_of, spelled}
use Rattle.bool_decoder.specs.Coder.{Coder, front_number}

-- the first `count` of 64 bits, and then those of the bytes
abbrev pub bits_ahead : ℕ → ℕ → List ℕ → List ℕ
bits_ahead window count bytes = take count (spelled 64 window) ++ bits_of bytes

-- the number that the first n bytes spell, zeros following them
unfoldable pub front_bytes : ℕ → List ℕ → ℕ
front_bytes zero bytes = 0
front_bytes (suc n) [] = 0
front_bytes (suc n) (b ∷ bytes) = b * 2 ^ (8 * n) + front_bytes n bytes

-- m bits of which the last one ends a byte: what the first n + m bits spell, less the coder's low
pub record HoldsBits (c : Coder) (window m : ℕ) : Type 0 where
  pub least : 8 ≤ m
  pub most : m ≤ 64
  pub whole : (c.n + m) % 8 ≡ 0
  pub spelled : window / 2 ^ (64 - m) ≡ front_number (c.n + m) c.bits - c.low * 2 ^ (m - 8)
