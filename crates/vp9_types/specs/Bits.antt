-- The bits of bytes, most significant first (4.10 of the standard: f(n)).
use Rattle.std.specs.Prelude.{ℕ, zero, suc, ◌+◌, ◌*◌, ◌/◌, ◌%◌, ◌^◌, ◌<◌, List, [], ◌∷◌, ◌++◌}
use Rattle.std.specs.List.{fold, AllByRecursion}

-- the eight bits of a byte
abbrev pub bits_of_byte : ℕ → List ℕ
bits_of_byte b = b / 128 % 2 ∷ b / 64 % 2 ∷ b / 32 % 2 ∷ b / 16 % 2 ∷ b / 8 % 2 ∷ b / 4 % 2 ∷ b / 2 % 2 ∷ b / 1 % 2 ∷ []

unfoldable pub bits_of : List ℕ → List ℕ
bits_of [] = []
bits_of (b ∷ bytes) = bits_of_byte b ++ bits_of bytes

-- the number that bits spell: each bit doubles the number before it
abbrev pub number_of : List ℕ → ℕ
number_of bits = fold (λ n b. 2 * n + b) 0 bits

-- the n bits that spell a number below 2 ^ n: the first of n + 1 is worth 2 ^ n
unfoldable pub spelled : ℕ → ℕ → List ℕ
spelled zero x = []
spelled (suc n) x = x / 2 ^ n ∷ spelled n (x % 2 ^ n)

abbrev pub AreBits : List ℕ → Type 0
AreBits bits = AllByRecursion (λ b. b < 2) bits
