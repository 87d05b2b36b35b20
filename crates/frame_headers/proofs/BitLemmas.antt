-- The bits of bytes, one after another.
use Rattle.std.proofs.Common.{◌≡◌, ℕ, zero, suc, ◌+◌, ◌-◌, ◌*◌, ◌/◌, ◌%◌, ◌^◌, ◌<◌, ◌≤◌, List, [], ◌∷◌, length, get_or, take, drop, refl, ap, sym, ◌∙◌, arith}
use Rattle.std.proofs.Math.Seq.{take-length}
use Rattle.std.proofs.lemmas.List.{length-drop}
use Rattle.vp9_types.specs.Bits.{bits_of, AreBits}

pub bit_there : (b : ℕ) (bytes : List ℕ) (used : ℕ) → used < 8 → drop used (bits_of (b ∷ bytes)) ≡ b / 2 ^ (7 - used) % 2 ∷ drop (used + 1) (bits_of (b ∷ bytes))
unfolding bits_of
bit_there b bytes zero h = refl
bit_there b bytes (suc zero) h = refl
bit_there b bytes (suc (suc zero)) h = refl
bit_there b bytes (suc (suc (suc zero))) h = refl
bit_there b bytes (suc (suc (suc (suc zero)))) h = refl
bit_there b bytes (suc (suc (suc (suc (suc zero))))) h = refl
bit_there b bytes (suc (suc (suc (suc (suc (suc zero)))))) h = refl
bit_there b bytes (suc (suc (suc (suc (suc (suc (suc zero))))))) h = refl
bit_there b bytes (suc (suc (suc (suc (suc (suc (suc (suc n)))))))) h = absurd (omega arith)

pub last_bit : (b : ℕ) (bytes : List ℕ) → drop 8 (bits_of (b ∷ bytes)) ≡ bits_of bytes
unfolding bits_of
last_bit b bytes = refl

pub no_bits : (used : ℕ) → drop used (bits_of []) ≡ []
unfolding bits_of
no_bits zero = refl
no_bits (suc used) = refl

-- the next bit of the first byte
pub first_bit : (rest : List ℕ) (used : ℕ) → 1 ≤ length rest → used < 8 → drop used (bits_of rest) ≡ get_or rest 0 0 / 2 ^ (7 - used) % 2 ∷ drop (used + 1) (bits_of rest)
first_bit [] used h low = absurd (omega arith)
first_bit (b ∷ bytes) used h low = bit_there b bytes used low

one_less : (n : ℕ) → suc n - 1 ≡ n
one_less n = omega arith

all_of : (xs : List ℕ) → take (suc (length xs) - 1) xs ≡ xs
all_of xs = ap (λ n. take n xs) (one_less (length xs)) ∙ take-length xs

-- after a byte's last bit come the bits of the others
pub byte_done : (rest : List ℕ) → 1 ≤ length rest → drop 8 (bits_of rest) ≡ bits_of (take (length rest - 1) (drop 1 rest))
byte_done [] h = absurd (omega arith)
byte_done (b ∷ bytes) h = last_bit b bytes ∙ ap bits_of (sym (all_of bytes))

pub none_left : (rest : List ℕ) (used : ℕ) → length rest < 1 → drop used (bits_of rest) ≡ []
none_left [] used h = no_bits used
none_left (b ∷ bytes) used h = absurd (omega arith)

pub length-bits_of : (bytes : List ℕ) → length (bits_of bytes) ≡ 8 * length bytes
unfolding bits_of
length-bits_of [] = refl
length-bits_of (b ∷ bytes) = let rest = length-bits_of bytes in omega (arith, rest)

-- the bytes of which no bit is read
pub whole_bytes : (rest bits : List ℕ) (used : ℕ) → drop used (bits_of rest) ≡ bits → used ≡ 0 → length rest ≡ length bits / 8
whole_bytes rest bits used h none =
    let all = length-bits_of rest in
    let left = length-drop used (bits_of rest) in
    let same = ap length h in
    omega (arith, all, left, same, none)

pub one_begun : (rest bits : List ℕ) (used : ℕ) → drop used (bits_of rest) ≡ bits → (used ≡ 0 → ⊥) → used < 8 → 1 ≤ length rest → length rest - 1 ≡ length bits / 8
one_begun rest bits used h some low there =
    let all = length-bits_of rest in
    let left = length-drop used (bits_of rest) in
    let same = ap length h in
    omega (arith, all, left, same, some, low, there)

low_bit : (n : ℕ) → n % 2 < 2
low_bit n = omega arith

pub are_bits : (bytes : List ℕ) → AreBits (bits_of bytes)
unfolding bits_of
are_bits [] = tt
are_bits (b ∷ bytes) =
    (low_bit (b / 128), (low_bit (b / 64), (low_bit (b / 32), (low_bit (b / 16), (low_bit (b / 8), (low_bit (b / 4), (low_bit (b / 2), (low_bit (b / 1), are_bits bytes))))))))
