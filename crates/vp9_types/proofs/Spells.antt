-- Numbers and the bits that spell them.
use Rattle.std.proofs.Common.{◌≡◌, ℕ, zero, suc, ◌+◌, ◌*◌, ◌/◌, ◌%◌, ◌^◌, ◌<◌, ◌≤◌, List, [], ◌∷◌, ◌++◌, length, refl, ap, ◌∙◌, arith, take, drop, lit<}
use Rattle.std.specs.List.{fold}
use Rattle.std.proofs.lemmas.Nat.{pow_pos, div-mul-add, mod-mul-add}
use Rattle.std.proofs.Math.Nat.{two-pow-succ, mod-lt, div-add-mod, mul-le-mul_left}
use Rattle.vp9_types.specs.Bits.{number_of, spelled, AreBits}

doubled : (a b p : ℕ) → (2 * a + b) * p ≡ a * (p + p) + b * p
doubled a b p = omega arith

zero_plus : (b : ℕ) → 2 * 0 + b ≡ b
zero_plus b = omega arith

-- what a front of bits is worth
pub from_front : (bits : List ℕ) (a : ℕ) → fold (λ n b. 2 * n + b) a bits ≡ a * 2 ^ length bits + number_of bits
from_front [] a = omega arith
from_front (b ∷ bits) a =
    let there = from_front bits (2 * a + b) in
    let here = from_front bits (2 * 0 + b) in
    let grows = two-pow-succ (length bits) in
    let split = doubled a b (2 ^ length bits) in
    let wide = ap (λ p. a * p) grows in
    let first = ap (λ n. n * 2 ^ length bits) (zero_plus b) in
    omega (arith, there, here, split, wide, first)

pub number_of-cons : (b : ℕ) (bits : List ℕ) → number_of (b ∷ bits) ≡ b * 2 ^ length bits + number_of bits
number_of-cons b bits =
    let here = from_front bits (2 * 0 + b) in
    let first = ap (λ n. n * 2 ^ length bits) (zero_plus b) in
    omega (arith, here, first)

at_most_one : (b p : ℕ) → b < 2 → b * p ≤ p
at_most_one b p h = let below : b ≤ 1 = omega arith in omega (arith, mul-le-mul_left p below)

pub number_of-below : (bits : List ℕ) → AreBits bits → number_of bits < 2 ^ length bits
number_of-below [] h = lit< tt
number_of-below (b ∷ bits) h =
    let there = number_of-below bits h.1 in
    let grows = two-pow-succ (length bits) in
    let first = at_most_one b (2 ^ length bits) h.0 in
    let is = number_of-cons b bits in
    omega (arith, there, grows, first, is)

pub length-spelled : (n x : ℕ) → length (spelled n x) ≡ n
unfolding spelled
length-spelled zero x = refl
length-spelled (suc n) x = ap suc (length-spelled n (x % 2 ^ n))

pub number_of-spelled : (n x : ℕ) → x < 2 ^ n → number_of (spelled n x) ≡ x
unfolding spelled
number_of-spelled zero x h = omega arith
number_of-spelled (suc n) x h =
    let is = number_of-cons (x / 2 ^ n) (spelled n (x % 2 ^ n)) in
    let rest = number_of-spelled n (x % 2 ^ n) (mod-lt x (pow_pos n)) in
    let long = ap (λ k. x / 2 ^ n * 2 ^ k) (length-spelled n (x % 2 ^ n)) in
    let whole = div-add-mod x (2 ^ n) in
    omega (arith, is, rest, long, whole)

pub spelled-number_of : (bits : List ℕ) → AreBits bits → spelled (length bits) (number_of bits) ≡ bits
unfolding spelled
spelled-number_of [] h = refl
spelled-number_of (b ∷ bits) h =
    let is = number_of-cons b bits in
    let low = number_of-below bits h.1 in
    let first : number_of (b ∷ bits) / 2 ^ length bits ≡ b = ap (λ n. n / 2 ^ length bits) is ∙ div-mul-add b (2 ^ length bits) (number_of bits) low in
    let others : number_of (b ∷ bits) % 2 ^ length bits ≡ number_of bits = ap (λ n. n % 2 ^ length bits) is ∙ mod-mul-add b (2 ^ length bits) (number_of bits) low in
    ap (λ c. c ∷ spelled (length bits) (number_of (b ∷ bits) % 2 ^ length bits)) first
    ∙ ap (λ m. b ∷ spelled (length bits) m) others
    ∙ ap (λ bs. b ∷ bs) (spelled-number_of bits h.1)

pub AreBits-take : (n : ℕ) (bits : List ℕ) → AreBits bits → AreBits (take n bits)
AreBits-take zero bits h = tt
AreBits-take (suc n) [] h = tt
AreBits-take (suc n) (b ∷ bits) h = (h.0, AreBits-take n bits h.1)

pub AreBits-drop : (n : ℕ) (bits : List ℕ) → AreBits bits → AreBits (drop n bits)
AreBits-drop zero bits h = h
AreBits-drop (suc n) [] h = tt
AreBits-drop (suc n) (b ∷ bits) h = AreBits-drop n bits h.1

pub AreBits-append : (xs ys : List ℕ) → AreBits xs → AreBits ys → AreBits (xs ++ ys)
AreBits-append [] ys h g = g
AreBits-append (x ∷ xs) ys h g = (h.0, AreBits-append xs ys h.1 g)
